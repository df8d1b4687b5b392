use Rattle.std.proofs.Common.{arith, ℕ, ◌<◌, ◌∙◌, ◌∷◌, [], ◌++◌}
use Rattle.std.proofs.lemmas.List.{length-append}
use Rattle.join_base.specs.declared.message.Message.{Message}
use Rattle.feed_store.proofs.LeftLemmas.{one_done}
use Rattle.actor_pool.specs.Helpers.{actor_count}
use Rattle.actor_pool.proofs.HelperLemmas.{goes-further}
use Rattle.actor_pool.proofs.PosterLemmas.{All-first, All-rest, all-more, first-read}
use Rattle.actor_pool.proofs.feeding.post_packed.Goals as goal

pub post_one-requires-clause-exists : goal.post_one-requires-clause-exists
post_one-requires-clause-exists g c =
    let post : ℕ × Message = (c.in-Some.actor, c.in-Some.message) in
    let first = first-read c.posts.rest c.next.new.self c.in_ok-actor.field-0 post c.in-Some.is c.in_ok-actor.ensures.post in
    All-first (λ (x : ℕ × Message). x.0 < actor_count c.args.pool.now) c.posts.rest c.next.new.self post first c.posts.invariant.exist

pub returns-in_err-post_one-clause-goes_on : goal.returns-in_err-post_one-clause-goes_on
returns-in_err-post_one-clause-goes_on g c = goes-further _ _ _ _ c.posts.invariant.goes_on c.in_err-post_one.ensures.goes_on

pub posts-preserved : goal.posts-preserved
posts-preserved g c =
    let before = c.posts.invariant in
    let done = before.sent.0 in
    let post : ℕ × Message = (c.in-Some.actor, c.in-Some.message) in
    let first = first-read c.posts.rest c.next.new.self c.in_ok-actor.field-0 post c.in-Some.is c.in_ok-actor.ensures.post in
    let step = c.in_ok-post_one.ensures in
    record {
      poster = step.poster;
      tag = step.tag ∙ before.tag;
      goes_on = goes-further _ _ _ _ before.goes_on step.goes_on;
      fits = step.fits;
      exist = All-rest (λ (x : ℕ × Message). x.0 < actor_count c.args.pool.now) c.posts.rest c.next.new.self post first before.exist;
      sent = (
        done ++ post ∷ [],
        one_done _ _ _ done post before.sent.1 first,
        all-more _ _ _ done post before.sent.2 step.sent,
        omega (arith, before.sent.3, step.tries, length-append done (post ∷ [])),
      );
    }
