use Rattle.std.proofs.Common.{◌≡◌, Some, drop, map}
use Rattle.guard_eval.specs.Shape.{conjunct_condition}
use Rattle.script_lint.specs.Findings.{is_contradicted}
use Rattle.script_lint.proofs.dead.is_fixed_otherwise.Given as goal

-- the conjuncts that are left decide
abbrev pub invariant-loop-other : goal.invariant-loop-other
invariant-loop-other l = is_contradicted (map conjunct_condition (drop l.other-index l.other-items)) (Some (l.place, l.text)) ≡ is_contradicted l.conjuncts (Some (l.place, l.text))
