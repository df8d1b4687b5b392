use Rattle.std.proofs.Common.{◌≡◌, ◌∙◌, ◌+◌, ◌*◌, ◌≤◌, Some, length, take, slice_get, ap, sym, subst, arith}
use Rattle.std.specs.List.{sum_by}
use Rattle.actor_system.specs.Serving.{Serving}
use Rattle.actor_system.specs.Inside.{serving_of}
use Rattle.actor_system.proofs.EndLemmas.{fed_more, most_of, work_of}
use Rattle.actor_system.proofs.system.System.most_steps.Goals as goal

pub loop-feed-preserved : goal.loop-feed-preserved
loop-feed-preserved c =
    let i = c.loop-feed.invariant in
    let feed = c.loop-feed.feed in
    let item = subst (λ (s : Serving). slice_get s.feeds feed ≡ Some c.at.result.now) c.self.view_is c.at.ensures.item in
    let more = fed_more length c.args.self.now.feeds feed c.at.result.now item in
    record { posts = (λ j. i.posts j + c.len.ensures.count j) ∙ sym more; few = omega (arith, i.few, c.len.type_inv) }

pub returns-clause-most : goal.returns-clause-most
returns-clause-most c =
    let s : Serving = serving_of c.self.inside in
    let posts = c.loop-feed.invariant.posts ∙ ap (λ (v : Serving). sum_by length (take c.loop-feed.feed v.feeds)) (sym c.self.view_is) in
    let all : length s.feeds ≤ c.loop-feed.feed = omega (arith, c.loop-feed-test.false, c.len-feed-end.ensures.count) in
    subst (λ (v : Serving). work_of v ≤ 32 * (c.loop-feed.posts + 17 * c.self.inside.limits.arrivals)) c.self.view_is (most_of s c.self.invariant.sound c.loop-feed.posts c.loop-feed.feed posts all)
