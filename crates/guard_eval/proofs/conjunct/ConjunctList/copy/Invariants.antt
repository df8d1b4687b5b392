use Rattle.std.proofs.Common.{◌≡◌, take, map}
use Rattle.guard_eval.specs.Shape.{conjunct_condition}
use Rattle.guard_eval.proofs.conjunct.ConjunctList.copy.Given as goal

abbrev pub invariant-loop-conjunct : goal.invariant-loop-conjunct
invariant-loop-conjunct l = map conjunct_condition l.rows.items ≡ map conjunct_condition (take l.conjunct-index l.conjunct-items)
