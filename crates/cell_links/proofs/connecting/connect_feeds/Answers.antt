use Rattle.std.proofs.Common.{◌≡◌, arith, sym, subst, ◌∙◌, ◌∷◌, [], List, ap, length, map, All}
use Rattle.std.proofs.lemmas.List.{length-append, length-map}
use Rattle.std.proofs.lemmas.List.Elements.{All-push}
use Rattle.cell_links.specs.declared.ends.Outward.{Outward}
use Rattle.cell_links.specs.declared.feed_links.FeedLinks.{FeedLinks}
use Rattle.cell_links.specs.Ends.{link_count, poster_links, poster_tag}
use Rattle.cell_links.specs.Wiring.{AreLinked, feed_keys}
use Rattle.cell_links.specs.Making.{IsNewOut, keys_from}
use Rattle.cell_links.proofs.ConnectingLemmas.{feed-more, in-order}
use Rattle.cell_links.proofs.connecting.connect_feeds.Goals as goal

pub of-requires : goal.of-requires
of-requires c = in-order c.in_ok-outward.outward.items c.args.targets.now c.in_ok-outward.ensures.targets c.requires.counted

pub loop-i-preserved : goal.loop-i-preserved
loop-i-preserved c =
    let before = c.loop-i.invariant in
    let step = c.in_ok-outward.ensures in
    let items = c.in_ok-push.ensures.items in
    let now = c.connect_source.new.inwards.items in
    let p : FeedLinks = c.of.result in
    let own = c.of.ensures in
    let Each : FeedLinks → Type 0 = λ (q : FeedLinks). (link_count q ≡ length c.args.targets.now) × All (IsNewOut c.args.ring) (poster_links q) in
    let count : link_count p ≡ length c.args.targets.now = ap length own ∙ sym (length-map c.in_ok-outward.outward.items (λ (o : Outward). o.target)) ∙ ap length step.targets in
    record {
      count = step.count ∙ before.count;
      posters = omega (arith, ap length items, length-append c.loop-i.posters.items (p ∷ []), before.posters);
      each = subst (All Each) (sym items) (All-push Each c.loop-i.posters.items p before.each (count, subst (All (IsNewOut c.args.ring)) (sym own) step.sends));
      fresh = step.fresh before.fresh;
      linked = subst (λ (l : List FeedLinks). AreLinked (feed_keys 1 (map poster_tag l)) (keys_from 0 now)) (sym items)
          (feed-more c.loop-i.i c.loop-i.posters.items p c.in_ok-outward.outward.items c.loop-i.inwards.items now own before.posters before.linked step.linked);
    }
