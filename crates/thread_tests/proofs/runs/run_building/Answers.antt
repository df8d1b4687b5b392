use Rattle.std.proofs.Common.{rules, ℕ, ◌≤◌}
use Rattle.thread_tests.proofs.LoadLemmas.{building_fits, four_feeds}
use Rattle.thread_tests.proofs.runs.run_building.Goals as goal

pub run_pool-requires-clause-count : goal.run_pool-requires-clause-count
run_pool-requires-clause-count g c κs within = four_feeds c.in_ok-feeds.feeds c.args.rows c.in_ok-feeds.ensures.feeds

pub run_pool-requires-clause-posts : goal.run_pool-requires-clause-posts
run_pool-requires-clause-posts g c κs within =
    let few : c.args.rows ≤ 20000 = search rules in
    building_fits c.in_ok-plan.plan c.in_ok-feeds.feeds c.args.rows few c.in_ok-plan.ensures.plan c.in_ok-feeds.ensures.feeds
