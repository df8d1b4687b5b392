use Rattle.actor_tests.proofs.PoolLemmas.{whole_again}
use Rattle.actor_tests.proofs.finished.finished_run.Goals as goal

pub finish-requires-clause-whole : goal.finish-requires-clause-whole
finish-requires-clause-whole g c =
    let posted = c.is_posted-posted.ensures in
    let served = c.have_turns-served.ensures in
    whole_again c.args.plan.now c.args.limits c.in_ok-pool.pool c.in_ok-pool.posters.items c.is_posted-posted.new.posters.items c.in_ok-pool.helper c.have_turns-served.new.helper
    c.in_ok-pool.ensures.whole posted.count posted.own posted.tags served.own served.role served.tags
