use Rattle.std.proofs.Common.{◌≡◌, drop, map}
use Rattle.std.specs.List.{list_any}
use Rattle.guard_eval.specs.Shape.{conjunct_condition}
use Rattle.script_lint.specs.Findings.{is_dead, is_excluded}
use Rattle.script_lint.proofs.dead.is_dead.Given as goal

-- the conjuncts that are left decide
abbrev pub invariant-loop-conjunct : goal.invariant-loop-conjunct
invariant-loop-conjunct l = list_any (is_excluded l.definition.conjuncts) (map conjunct_condition (drop l.conjunct-index l.conjunct-items)) ≡ is_dead l.definition
