use Rattle.look_command.proofs.RunLemmas.{accepted_run}
use Rattle.look_command.proofs.runs.run_of.Goals as goal

pub returns-in-Ok-clause-run : goal.returns-in-Ok-clause-run
returns-in-Ok-clause-run c = (c.in-Ok.ensures.answer, accepted_run c.args.plan.now c.args.bytes.now c.in-Ok.read c.requires.typed c.requires.accepted c.in-Ok.ensures.answer)
