use Rattle.std.proofs.Common.{◌≡◌, ◌++◌, drop, length}
use Rattle.feed_store.specs.Kept.{CanReadAll, values_of}
use Rattle.feed_store.proofs.reading.values_of.Given as goal

abbrev pub invariant-loop-place : goal.invariant-loop-place
invariant-loop-place l = record {
  told : l.fields ++ values_of (drop l.place l.marks) l.numbers l.bytes ≡ values_of l.marks l.integers l.words;
  can : CanReadAll (drop l.place l.marks) l.numbers l.bytes;
  count : length l.fields ≡ l.place;
}
