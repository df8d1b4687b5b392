use Rattle.std.proofs.Common.{refl, sym}
use Rattle.join_command.specs.declared.top.Unanswered.TheVariants.{NoMemory}
use Rattle.look_command.specs.Request.{request_in}
use Rattle.look_command.proofs.TopLemmas.{nothing_prepared, request_prepared, usage_prepared}
use Rattle.look_command.proofs.top.prepare.Goals as goal

pub returns-in-Ok-Some-clause-told : goal.returns-in-Ok-Some-clause-told
returns-in-Ok-Some-clause-told g c =
    request_prepared c.args.words.now (request_in c.in-Ok-Some.request) (g.I.Inputs.tells c.args.inputs.now) (g.I.Inputs.tells c.prepare_request.new.inputs) c.prepare_request.result (sym (rw c.in-Ok-Some.field-0-is at c.in-Ok-Some.ensures.request)) c.prepare_request.ensures.told

pub returns-in-Ok-clause-told : goal.returns-in-Ok-clause-told
returns-in-Ok-clause-told g c = usage_prepared c.args.words.now (g.I.Inputs.tells c.args.inputs.now) c.in-Ok.line (sym (rw c.in-Ok-None.field-0-is at c.in-Ok-None.ensures.request)) (refl, c.in-Ok.ensures)

pub returns-in-Err-clause-told : goal.returns-in-Err-clause-told
returns-in-Err-clause-told g c = nothing_prepared c.args.words.now (g.I.Inputs.tells c.args.inputs.now) NoMemory
