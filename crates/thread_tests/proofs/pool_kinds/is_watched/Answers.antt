use Rattle.std.proofs.Common.{rules, ℕ, ◌≤◌}
use Rattle.thread_tests.proofs.LoadLemmas.{building_fits, four_feeds}
use Rattle.thread_tests.proofs.pool_kinds.is_watched.Goals as goal

pub run_with-requires-clause-count : goal.run_with-requires-clause-count
run_with-requires-clause-count g c κs within = four_feeds c.in_ok-feeds.feeds c.args.rows c.in_ok-feeds.ensures.feeds

pub run_with-requires-clause-posts : goal.run_with-requires-clause-posts
run_with-requires-clause-posts g c κs within =
    let few : c.args.rows ≤ 20000 = search rules in
    building_fits c.in_ok-plan.plan c.in_ok-feeds.feeds c.args.rows few c.in_ok-plan.ensures.plan c.in_ok-feeds.ensures.feeds

pub run_with-requires-clause-opening : goal.run_with-requires-clause-opening
run_with-requires-clause-opening g c κs within k d lt actor setting = tt

pub run_with-requires-clause-ready : goal.run_with-requires-clause-ready
run_with-requires-clause-ready g c κs within k d lt = record { source = tt; opening = λ actor setting. tt }
