use Rattle.std.proofs.Common.{◌≡◌, ◌++◌, drop, map}
use Rattle.guard_eval.specs.Shape.{conjunct_condition}
use Rattle.tied_patterns.specs.Equalities.{equalities_in}
use Rattle.tied_patterns.proofs.equality.equalities_from.Given as goal

abbrev pub invariant-loop-conjunct : goal.invariant-loop-conjunct
invariant-loop-conjunct l = l.equalities.items ++ equalities_in (map conjunct_condition (drop l.conjunct-index l.conjuncts)) ≡ equalities_in (map conjunct_condition l.conjuncts)
