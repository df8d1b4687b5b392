use Rattle.std.proofs.Common.{◌∷◌, [], length}
use Rattle.actor_pool.specs.Helpers.{actor_count}
use Rattle.uses.proofs.PostedLemmas.{are_sent, only_one, posts_exist, set_one}
use Rattle.uses.proofs.posted.counted_run.Goals as goal

pub post_all-requires-clause-exist : goal.post_all-requires-clause-exist
post_all-requires-clause-exist g c = posts_exist c.args.plan.now (actor_count c.in_ok-pool.pool) c.args.posts.now c.in_ok-pool.ensures.actors c.requires.posts

pub returns-clause-linked : goal.returns-clause-linked
returns-clause-linked g c =
    let was = only_one c.in_ok-pool.posters.items c.index_mut-poster.result.now c.in_ok-pool.ensures.count c.index_mut-poster.ensures.value in
    let is = set_one c.in_ok-pool.posters.items c.index_mut-poster.result.now c.post_all.new.poster was in
    c.in_ok-run.ensures.linked (c.args.posts.now ∷ []) (are_sent c.args.plan.now (length c.args.plan.now.actors) c.args.ring c.in_ok-pool.posters.items _ c.index_mut-poster.result.now c.post_all.new.poster c.args.posts.now was is c.in_ok-pool.ensures.fresh c.requires.posts c.in_ok-post_all.ensures.sent)

pub returns-clause-scheduled : goal.returns-clause-scheduled
returns-clause-scheduled g c =
    let was = only_one c.in_ok-pool.posters.items c.index_mut-poster.result.now c.in_ok-pool.ensures.count c.index_mut-poster.ensures.value in
    let is = set_one c.in_ok-pool.posters.items c.index_mut-poster.result.now c.post_all.new.poster was in
    c.in_ok-run.ensures.scheduled (c.args.posts.now ∷ []) (are_sent c.args.plan.now (length c.args.plan.now.actors) c.args.ring c.in_ok-pool.posters.items _ c.index_mut-poster.result.now c.post_all.new.poster c.args.posts.now was is c.in_ok-pool.ensures.fresh c.requires.posts c.in_ok-post_all.ensures.sent)
