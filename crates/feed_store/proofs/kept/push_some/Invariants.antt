use Rattle.std.proofs.Common.{◌≡◌, ◌++◌, take}
use Rattle.std.specs.List.{AllByRecursion}
use Rattle.feed_store.specs.Kept.{HasText, integers_of, marks_of, words_of}
use Rattle.feed_store.proofs.kept.push_some.Given as goal

abbrev pub invariant-loop-place : goal.invariant-loop-place
invariant-loop-place l = record {
  marks : l.stock.marks.items ≡ l.initial.stock.marks.items ++ marks_of (take l.place l.fields);
  integers : l.stock.integers.items ≡ l.initial.stock.integers.items ++ integers_of (take l.place l.fields);
  words : l.stock.words.items ≡ l.initial.stock.words.items ++ words_of (take l.place l.fields);
  texts : AllByRecursion HasText (take l.place l.fields);
}
