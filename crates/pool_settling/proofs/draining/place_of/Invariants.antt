use Rattle.std.proofs.Common.{ℕ, ◌<◌}
use Rattle.std.specs.Prelude.{slice_index_or}
use Rattle.cell_links.specs.Wiring.{Key}
use Rattle.pool_settling.specs.Ends.{Serves, entries, keys_of}
use Rattle.pool_settling.proofs.draining.place_of.Given as goal

abbrev pub invariant-loop-i : goal.invariant-loop-i
invariant-loop-i l = (k : ℕ) → k < l.i → ¬ ((d : Key) → Serves (slice_index_or (keys_of (entries l.senders)) k d) l.source l.target)
