use Rattle.std.proofs.Common.{◌≡◌, ◌<◌, ℕ}
use Rattle.std.specs.Prelude.{◌&&◌}
use Rattle.std.specs.List.{list_all}
use Rattle.row_screens.specs.PlaceSet.{has}
use Rattle.row_screens.specs.Ties.{needs_at}
use Rattle.row_screens.proofs.TieLemmas.{is_filled_before}
use Rattle.row_screens.proofs.trial.filled_among.Given as goal

-- those without a field of an empty pattern so far
abbrev pub invariant-loop-pattern : goal.invariant-loop-pattern
invariant-loop-pattern l = (k : ℕ) → k < 64 → has l.left k ≡ (has l.fn.among k && list_all (is_filled_before l.slots l.pattern) (needs_at l.offer.definition.now.conjuncts k))
