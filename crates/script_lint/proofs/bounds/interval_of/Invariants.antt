use Rattle.std.proofs.Common.{◌≡◌, drop, map}
use Rattle.guard_eval.specs.Shape.{conjunct_condition}
use Rattle.script_lint.specs.Bounds.{cut_by_all, interval_of}
use Rattle.script_lint.proofs.bounds.interval_of.Given as goal

-- the conjuncts that are left make of the interval what all make of the whole one
abbrev pub invariant-loop-conjunct : goal.invariant-loop-conjunct
invariant-loop-conjunct l = cut_by_all l.place l.interval (map conjunct_condition (drop l.conjunct-index l.conjunct-items)) ≡ interval_of l.conjuncts l.place
