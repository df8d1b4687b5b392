use Rattle.std.proofs.Common.{arith, ℕ, ◌<◌, ◌∙◌, ◌∷◌, [], ◌++◌}
use Rattle.std.proofs.lemmas.List.{length-append}
use Rattle.join_base.specs.declared.message.Message.{Message}
use Rattle.actor_pool.specs.Helpers.{actor_count}
use Rattle.actor_pool.proofs.HelperLemmas.{goes-further}
use Rattle.actor_pool.proofs.PosterLemmas.{All-front, all-more, more-done}
use Rattle.actor_pool.proofs.feeding.post_waiting.Goals as goal

pub returns-in_err-post_one-clause-goes_on : goal.returns-in_err-post_one-clause-goes_on
returns-in_err-post_one-clause-goes_on g c = goes-further _ _ _ _ c.loop-actor.invariant.goes_on c.in_err-post_one.ensures.goes_on

pub loop-actor-preserved : goal.loop-actor-preserved
loop-actor-preserved g c =
    let before = c.loop-actor.invariant in
    let done = before.sent.0 in
    let post : ℕ × Message = (c.in-Some.actor, c.in-Some.message) in
    let last = c.in-Some.ensures.items in
    let step = c.in_ok-post_one.ensures in
    record {
      poster = step.poster;
      tag = step.tag ∙ before.tag;
      goes_on = goes-further _ _ _ _ before.goes_on step.goes_on;
      fits = step.fits;
      exist = All-front (λ (x : ℕ × Message). x.0 < actor_count c.args.pool.now) c.loop-actor.waiting.items c.pop.new.self.items post last before.exist;
      sent = (
        done ++ post ∷ [],
        more-done _ _ _ done post before.sent.1 last,
        all-more _ _ _ done post before.sent.2 step.sent,
        omega (arith, before.sent.3, step.tries, length-append done (post ∷ [])),
      );
    }
