use Rattle.std.proofs.Common.{◌≡◌, ℕ, List, ◌++◌, length, map, take, All}
use Rattle.cell_links.specs.declared.ends.Outward.{Outward}
use Rattle.cell_links.specs.Ends.{PosterTag}
use Rattle.cell_links.specs.Wiring.{AreLinked, feed_keys}
use Rattle.cell_links.specs.Making.{AllNew, IsNewOut, keys_from, sending_from}
use Rattle.cell_links.proofs.ConnectingLemmas.{targets-of}
use Rattle.cell_links.proofs.connecting.connect_actors.Given as goal

abbrev pub invariant-loop-i : goal.invariant-loop-i
invariant-loop-i l = record {
  count : length l.inwards.items ≡ length l.initial.inwards.items;
  outwards : length l.outwards.items ≡ l.i;
  targets : targets-of l.outwards.items ≡ take l.i (map (λ ts. ts.items) l.targets);
  sends : All (All (IsNewOut l.ring)) l.outwards.items;
  fresh : AllNew l.initial.inwards.items → AllNew l.inwards.items;
  linked : (tags : List PosterTag) → AreLinked (feed_keys 1 tags) (keys_from 0 l.initial.inwards.items) → AreLinked (feed_keys 1 tags ++ sending_from 0 l.outwards.items) (keys_from 0 l.inwards.items);
}
