use Rattle.look_command.proofs.runs.checked_run.Goals as goal

pub run_of-requires-clause-accepted : goal.run_of-requires-clause-accepted
run_of-requires-clause-accepted g c = (c.in-Ok.field-0, c.in-Ok.ensures.answer)
