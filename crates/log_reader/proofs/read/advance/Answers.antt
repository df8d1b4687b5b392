use Rattle.std.proofs.Common.{refl}
use Rattle.log_reader.proofs.ReadLemmas.{no_other}
use Rattle.log_reader.proofs.read.advance.Goals as goal

pub returns-in-Err-NoLine-step : goal.returns-in-Err-NoLine-step
returns-in-Err-NoLine-step c =
    (refl, no_other c.args.plan.now c.args.draft.now c.args.text.now c.in-Ok.given c.requires.typed c.requires.head c.in-Ok.ensures.found (rw c.in-Err-NoLine-step.field-0-is at c.in-Err-NoLine-step.ensures))
