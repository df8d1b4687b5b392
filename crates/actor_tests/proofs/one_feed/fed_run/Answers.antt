use Rattle.actor_pool.specs.Helpers.{actor_count}
use Rattle.actor_tests.proofs.PoolLemmas.{posts_exist, whole_again}
use Rattle.actor_tests.proofs.one_feed.fed_run.Goals as goal

pub is_posted-posted-requires-clause-exist : goal.is_posted-posted-requires-clause-exist
is_posted-posted-requires-clause-exist g c = posts_exist c.args.plan.now (actor_count c.in_ok-pool.pool) c.args.posts c.in_ok-pool.ensures.actors c.requires.fits

pub finish-requires-clause-whole : goal.finish-requires-clause-whole
finish-requires-clause-whole g c =
    let posted = c.is_posted-posted.ensures in
    whole_again c.args.plan.now c.args.limits c.in_ok-pool.pool c.in_ok-pool.posters.items c.is_posted-posted.new.posters.items c.in_ok-pool.helper c.is_posted-posted.new.helper
    c.in_ok-pool.ensures.whole posted.count posted.own posted.links posted.helper posted.role posted.tags
