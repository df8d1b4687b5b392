use Rattle.std.proofs.Common.{◌≡◌, ℕ}
use Rattle.std.specs.Prelude.{◌&&◌, nat_lt}
use Rattle.row_screens.specs.PlaceSet.{has}
use Rattle.row_screens.specs.Ties.{names, needs_at}
use Rattle.row_screens.proofs.ties.naming_of.Given as goal

-- the set has those of the places so far
abbrev pub invariant-loop-place : goal.invariant-loop-place
invariant-loop-place l = (k : ℕ) → has l.found k ≡ (nat_lt k l.place && names l.pattern (needs_at l.conjuncts k))
