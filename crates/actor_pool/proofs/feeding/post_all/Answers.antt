use Rattle.std.proofs.Common.{ℕ, ◌<◌}
use Rattle.std.proofs.lemmas.Result.{err_from_is_err_and, on_err_weaker, on_ok_weaker}
use Rattle.join_base.specs.declared.message.Message.{Message}
use Rattle.actor_pool.specs.Helpers.{actor_count}
use Rattle.actor_pool.specs.Posters.{feed_links}
use Rattle.actor_pool.proofs.HelperLemmas.{goes-further}
use Rattle.actor_pool.proofs.PosterLemmas.{first-sent, packed-all, parts-sent, second-sent, turned-all}
use Rattle.actor_pool.proofs.feeding.post_all.Goals as goal

pub post_waiting-requires-clause-exist : goal.post_waiting-requires-clause-exist
post_waiting-requires-clause-exist g c =
    turned-all c.args.posts c.into_parts-whole.result.0.items c.reverse.new.self.items c.into_parts-whole.result.1 c.into_parts-whole.ensures.same c.reverse.ensures.items (λ (x : ℕ × Message). x.0 < actor_count c.args.pool.now) c.requires.exist

pub returns-in_err-post_waiting-clause-some : goal.returns-in_err-post_waiting-clause-some
returns-in_err-post_waiting-clause-some g c =
    let p = err_from_is_err_and c.from_residual.result c.from_residual.ensures.1 in
    rw p.1 (first-sent c.args.posts c.into_parts-whole.result.0.items c.reverse.new.self.items c.into_parts-whole.result.1 c.into_parts-whole.ensures.same c.reverse.ensures.items (feed_links c.args.poster.now) (feed_links c.post_waiting.new.poster) c.in_err-post_waiting.ensures.some)

pub post_packed-requires-clause-exist : goal.post_packed-requires-clause-exist
post_packed-requires-clause-exist g c =
    packed-all c.args.posts c.into_parts-whole.result.0.items c.reverse.new.self.items c.into_parts-whole.result.1 c.into_parts-whole.ensures.same c.reverse.ensures.items (λ (x : ℕ × Message). x.0 < actor_count c.args.pool.now) c.requires.exist

pub returns-clause-goes_on : goal.returns-clause-goes_on
returns-clause-goes_on g c = goes-further _ _ _ _ c.post_waiting.ensures.goes_on c.post_packed.ensures.goes_on

pub returns-clause-sent : goal.returns-clause-sent
returns-clause-sent g c =
    on_ok_weaker c.post_packed.result
    (parts-sent c.args.posts c.into_parts-whole.result.0.items c.reverse.new.self.items c.into_parts-whole.result.1 c.into_parts-whole.ensures.same c.reverse.ensures.items (feed_links c.args.poster.now) (feed_links c.post_waiting.new.poster) (feed_links c.post_packed.new.poster) c.in_ok-post_waiting.ensures.sent)
    c.post_packed.ensures.sent

pub returns-clause-some : goal.returns-clause-some
returns-clause-some g c =
    on_err_weaker c.post_packed.result
    (second-sent c.args.posts c.into_parts-whole.result.0.items c.reverse.new.self.items c.into_parts-whole.result.1 c.into_parts-whole.ensures.same c.reverse.ensures.items (feed_links c.args.poster.now) (feed_links c.post_waiting.new.poster) (feed_links c.post_packed.new.poster) c.in_ok-post_waiting.ensures.sent)
    c.post_packed.ensures.some
