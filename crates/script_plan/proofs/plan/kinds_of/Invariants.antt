use Rattle.std.proofs.Common.{◌≡◌, map, take}
use Rattle.std.specs.List.{AllByRecursion}
use Rattle.script_types.specs.Names.{AreNames, field_names, kind_names}
use Rattle.script_types.specs.declared.plan.Kind.{Kind}
use Rattle.script_plan.specs.PlanOf.{kind_of}
use Rattle.script_plan.proofs.plan.kinds_of.Given as goal

abbrev pub invariant-loop-message : goal.invariant-loop-message
invariant-loop-message l = record {
  kinds : l.kinds ≡ map kind_of (take l.message-index l.messages);
  names : AreNames (kind_names l.kinds);
  fields : AllByRecursion (λ (kind : Kind). AreNames (field_names kind)) l.kinds;
}
