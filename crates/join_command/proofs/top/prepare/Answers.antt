use Rattle.std.proofs.Common.{refl, sym}
use Rattle.command_words.specs.Views.{command_in}
use Rattle.join_command.specs.declared.top.Unanswered.TheVariants.{NoMemory}
use Rattle.join_command.proofs.TopLemmas.{command_prepared, nothing_prepared, usage_prepared}
use Rattle.join_command.proofs.top.prepare.Goals as goal

pub returns-in-Ok-Some-clause-told : goal.returns-in-Ok-Some-clause-told
returns-in-Ok-Some-clause-told g c =
    command_prepared c.args.words.now (command_in c.in-Ok-Some.command) (g.I.Inputs.tells c.args.inputs.now) (g.I.Inputs.tells c.prepare_command.new.inputs) c.prepare_command.result (sym (rw c.in-Ok-Some.field-0-is at c.in-Ok-Some.ensures.command)) c.prepare_command.ensures.told

pub returns-in-Ok-clause-told : goal.returns-in-Ok-clause-told
returns-in-Ok-clause-told g c = usage_prepared c.args.words.now (g.I.Inputs.tells c.args.inputs.now) c.in-Ok.line (sym (rw c.in-Ok-None.field-0-is at c.in-Ok-None.ensures.command)) (refl, c.in-Ok.ensures)

pub returns-in-Err-clause-told : goal.returns-in-Err-clause-told
returns-in-Err-clause-told g c = nothing_prepared c.args.words.now (g.I.Inputs.tells c.args.inputs.now) NoMemory
