use Rattle.std.proofs.Common.{◌≡◌, ℕ, ◌<◌, length}
use Rattle.std.specs.Prelude.{slice_index_or}
use Rattle.cell_links.proofs.connecting.all_targets.Given as goal

abbrev pub invariant-loop-target : goal.invariant-loop-target
invariant-loop-target l = record {
  count : length l.targets.items ≡ l.target;
  each : (k d : ℕ) → k < l.target → slice_index_or l.targets.items k d ≡ k;
}
