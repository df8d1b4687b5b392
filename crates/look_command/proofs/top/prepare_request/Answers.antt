use Rattle.look_command.specs.Request.{request_in}
use Rattle.look_command.proofs.TopLemmas.{refused, replied}
use Rattle.look_command.proofs.top.prepare_request.Goals as goal

pub returns-in-Ok-refused_output-clause-told : goal.returns-in-Ok-refused_output-clause-told
returns-in-Ok-refused_output-clause-told g c =
    refused (request_in c.args.request.now) (g.I.Inputs.tells c.args.inputs.now) (g.I.Inputs.tells c.reply_of.new.inputs) c.in-Err-Refused.refusal c.in-Ok-refused_output.output.0 c.in-Ok-refused_output.output.1
    (rw c.in-Err-Refused.field-0-is at c.in-Err-Refused.ensures.told) c.in-Ok-refused_output.ensures.output

pub returns-in-Ok-output_of-clause-told : goal.returns-in-Ok-output_of-clause-told
returns-in-Ok-output_of-clause-told g c =
    replied (request_in c.args.request.now) (g.I.Inputs.tells c.args.inputs.now) (g.I.Inputs.tells c.reply_of.new.inputs) c.in-Ok.reply c.in-Ok-output_of.output.0 c.in-Ok-output_of.output.1 c.in-Ok.ensures.told c.in-Ok-output_of.ensures.output
