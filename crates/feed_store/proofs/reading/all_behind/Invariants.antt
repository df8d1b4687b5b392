use Rattle.std.proofs.Common.{◌≡◌, drop}
use Rattle.feed_store.specs.Kept.{CanReadAll, all_integers_behind, all_words_behind}
use Rattle.feed_store.proofs.reading.all_behind.Given as goal

abbrev pub invariant-loop-place : goal.invariant-loop-place
invariant-loop-place l = record {
  integers : all_integers_behind (drop l.place l.marks) l.numbers ≡ all_integers_behind l.marks l.integers;
  words : all_words_behind (drop l.place l.marks) l.bytes ≡ all_words_behind l.marks l.words;
  can : CanReadAll (drop l.place l.marks) l.numbers l.bytes;
}
