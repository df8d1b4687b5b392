use Rattle.std.proofs.Common.{arith, ◌<◌, ◌+◌, ◌≡◌, ◌∷◌, [], ◌++◌, ◌∙◌, All, List, ap, sym, subst, length, ℕ}
use Rattle.std.proofs.lemmas.List.{length-append}
use Rattle.std.proofs.lemmas.List.Elements.{All-push}
use Rattle.join_base.specs.declared.message.Message.{Message}
use Rattle.actor_pool.specs.Beside.{FitsOpening}
use Rattle.actor_pool.specs.Helpers.{SeatView, actor_count, seat_of}
use Rattle.actor_pool.specs.Posters.{IsPosterOf}
use Rattle.pool_run.specs.declared.parts.FeedPart.{FeedPart}
use Rattle.pool_run.specs.Parts.{HasTags, IsPart, part_poster, part_posts}
use Rattle.pool_run.proofs.HandLemmas.{All-front, All-last, first-of, last-of, more-done, spare-of, split-tags}
use Rattle.pool_run.proofs.handing.feed_parts.Goals as goal

pub loop-poster-preserved : goal.loop-poster-preserved
loop-poster-preserved g c =
    let before = c.loop-poster.invariant in
    let p = c.args.pool.now in
    let given = c.in_ok-other.ensures.given in
    let fits = g.B.Beside.fits in
    let one : FeedPart g.row.B.Denot = record { poster = c.in-Some.poster; helper = c.in_ok-other.other; posts = c.unwrap-posts.result; beside = c.unwrap-beside.result } in
    let more : c.push.new.self.items ≡ c.loop-poster.parts.items ++ one ∷ [] = c.in_ok-push.ensures.items in
    let poster = c.in-Some.ensures.items in
    let posts = last-of c.loop-poster.lists.items c.pop-in-Some.new.self.items _ _ c.pop-in-Some.ensures.items c.unwrap-posts.ensures in
    let beside = last-of c.loop-poster.besides.items c.pop-in-Some-2.new.self.items _ _ c.pop-in-Some-2.ensures.items c.unwrap-beside.ensures in
    let longer : length c.loop-poster.parts.items + 1 ≡ length c.push.new.self.items = omega (arith, ap length more, length-append c.loop-poster.parts.items (one ∷ [])) in
    let P : List (ℕ × Message) → Type 0 = All (λ (post : ℕ × Message). post.0 < actor_count p) in
    let Known : FeedPart g.row.B.Denot → Type 0 = λ part. HasTags (seat_of c.args.helper.now).tags part.helper in
    record {
      own = c.split.ensures.own;
      first = first-of p _ _ c.split.new.self longer (c.in_ok-other.ensures.out _ before.first);
      tags = split-tags _ _ c.in_ok-other.ensures.kept ∙ before.tags;
      parts = subst (All (IsPart p fits)) (sym more) (All-push (IsPart p fits) c.loop-poster.parts.items one before.parts record {
        poster = All-last (IsPosterOf p) _ _ _ poster before.left;
        spare = spare-of p (seat_of c.loop-poster.helper) _ given.0 given.1;
        exist = All-last P _ _ _ posts before.exist;
        opening = All-last (FitsOpening fits) _ _ _ beside before.opening;
      });
      known = subst (All Known) (sym more) (All-push Known c.loop-poster.parts.items one before.known (ap (λ (v : SeatView). v.tags) given.1 ∙ before.tags));
      posters = more-done part_poster _ _ _ _ _ one before.posters poster more;
      posts = more-done part_posts _ _ _ _ _ one before.posts posts more;
      same = omega (arith, before.same, ap length poster, ap length posts, length-append c.pop.new.self.items (c.in-Some.poster ∷ []), length-append c.pop-in-Some.new.self.items (c.unwrap-posts.result ∷ []));
      even = omega (arith, before.even, ap length poster, ap length beside, length-append c.pop.new.self.items (c.in-Some.poster ∷ []), length-append c.pop-in-Some-2.new.self.items (c.unwrap-beside.result ∷ []));
      left = All-front (IsPosterOf p) _ _ _ poster before.left;
      exist = All-front P _ _ _ posts before.exist;
      opening = All-front (FitsOpening fits) _ _ _ beside before.opening;
    }
