use Rattle.std.proofs.Common.{◌≡◌, drop, map}
use Rattle.std.specs.List.{list_all}
use Rattle.guard_eval.specs.Shape.{conjunct_condition}
use Rattle.script_lint.specs.Findings.{is_implied}
use Rattle.script_lint.proofs.shadow.are_implied.Given as goal

-- the conjuncts that are left decide
abbrev pub invariant-loop-conjunct : goal.invariant-loop-conjunct
invariant-loop-conjunct l = list_all (is_implied l.conjuncts) (map conjunct_condition (drop l.conjunct-index l.conjunct-items)) ≡ list_all (is_implied l.conjuncts) l.weaker
