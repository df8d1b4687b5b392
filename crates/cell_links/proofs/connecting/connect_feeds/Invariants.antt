use Rattle.std.proofs.Common.{◌≡◌, length, map, All}
use Rattle.cell_links.specs.declared.feed_links.FeedLinks.{FeedLinks}
use Rattle.cell_links.specs.Ends.{link_count, poster_links, poster_tag}
use Rattle.cell_links.specs.Wiring.{AreLinked, feed_keys}
use Rattle.cell_links.specs.Making.{AllNew, IsNewOut, keys_from}
use Rattle.cell_links.proofs.connecting.connect_feeds.Given as goal

abbrev pub invariant-loop-i : goal.invariant-loop-i
invariant-loop-i l = record {
  count : length l.inwards.items ≡ length l.initial.inwards.items;
  posters : length l.posters.items ≡ l.i;
  each : All (λ (p : FeedLinks). (link_count p ≡ length l.targets) × All (IsNewOut l.ring) (poster_links p)) l.posters.items;
  fresh : AllNew l.inwards.items;
  linked : AreLinked (feed_keys 1 (map poster_tag l.posters.items)) (keys_from 0 l.inwards.items);
}
