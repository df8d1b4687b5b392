use Rattle.ask_run.proofs.running.run_asking.Goals as goal

pub run_on-requires-clause-belong : goal.run_on-requires-clause-belong
run_on-requires-clause-belong g c κs within k d lt = tt
