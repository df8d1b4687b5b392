use Rattle.std.proofs.Common.{◌∙◌}
use Rattle.pool_run.proofs.stealing.run_stealing.Goals as goal

pub run_with-requires-clause-opening : goal.run_with-requires-clause-opening
run_with-requires-clause-opening g c κs within k d lt actor setting = tt

pub run_with-requires-clause-ready : goal.run_with-requires-clause-ready
run_with-requires-clause-ready g c κs within k d lt = record { source = c.in_ok-crew.ensures.own k d lt ∙ c.len-2.ensures.count; opening = λ actor setting. tt }
