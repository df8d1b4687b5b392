use Rattle.std.proofs.Common.{◌≡◌, drop, map}
use Rattle.std.specs.List.{list_any}
use Rattle.guard_eval.specs.Shape.{conjunct_condition}
use Rattle.script_lint.specs.Same.{is_same}
use Rattle.script_lint.proofs.shadow.has_same.Given as goal

-- the conjuncts that are left decide
abbrev pub invariant-loop-other : goal.invariant-loop-other
invariant-loop-other l = list_any (is_same (conjunct_condition l.conjunct)) (map conjunct_condition (drop l.other-index l.other-items)) ≡ list_any (is_same (conjunct_condition l.conjunct)) l.conjuncts
