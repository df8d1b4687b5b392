use Rattle.watch_run.proofs.watching.run_published.Goals as goal

pub run_with-requires-clause-opening : goal.run_with-requires-clause-opening
run_with-requires-clause-opening g c κs within k d lt actor setting = tt

pub run_with-requires-clause-ready : goal.run_with-requires-clause-ready
run_with-requires-clause-ready g c κs within k d lt = record { source = tt; opening = λ actor setting. tt }
