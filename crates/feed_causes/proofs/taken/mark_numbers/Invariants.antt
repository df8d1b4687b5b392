use Rattle.std.proofs.Common.{◌≡◌, drop, map}
use Rattle.feed_causes.specs.Causes.{place_of}
use Rattle.feed_causes.specs.Search.{all_awaited, all_marked}
use Rattle.feed_causes.proofs.taken.mark_numbers.Given as goal

abbrev pub invariant-loop-number : goal.invariant-loop-number
invariant-loop-number l = record {
  marked_all : all_marked l.marks.items (map (place_of l.fn.place l.fn.own) (drop l.number-index l.numbers)) ≡ all_marked l.initial.marks.items (map (place_of l.fn.place l.fn.own) l.numbers);
  awaited_all : all_awaited l.marks.items (map (place_of l.fn.place l.fn.own) (drop l.number-index l.numbers)) l.waiting ≡ all_awaited l.initial.marks.items (map (place_of l.fn.place l.fn.own) l.numbers) l.initial.waiting;
}
