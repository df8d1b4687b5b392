use Rattle.command_words.specs.Views.{command_in}
use Rattle.join_command.proofs.TopLemmas.{replied}
use Rattle.join_command.proofs.top.prepare_command.Goals as goal

pub returns-in-Ok-output_of-clause-told : goal.returns-in-Ok-output_of-clause-told
returns-in-Ok-output_of-clause-told g c =
    replied (command_in c.args.command.now) (g.I.Inputs.tells c.args.inputs.now) (g.I.Inputs.tells c.reply_of.new.inputs) c.in-Ok.reply c.in-Ok-output_of.output.0 c.in-Ok-output_of.output.1 c.in-Ok.ensures.told c.in-Ok-output_of.ensures.output
