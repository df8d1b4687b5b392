use Rattle.std.proofs.Common.{◌≡◌, map, take}
use Rattle.script_types.specs.Names.{AreNames}
use Rattle.script_plan.specs.PlanOf.{field_of}
use Rattle.script_plan.proofs.plan.fields_of.Given as goal

abbrev pub invariant-loop-decl : goal.invariant-loop-decl
invariant-loop-decl l = record {
  fields : l.fields ≡ map field_of (take l.decl-index l.decls);
  names : AreNames (map (λ f. f.0) l.fields);
}
