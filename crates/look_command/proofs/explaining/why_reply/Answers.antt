use Rattle.look_command.proofs.RunLemmas.{explaining_replied, explaining_run_stopped, explaining_script_stopped}
use Rattle.look_command.proofs.explaining.why_reply.Goals as goal

pub returns-in-Err-clause-told : goal.returns-in-Err-clause-told
returns-in-Err-clause-told g c =
    let words = c.args.words.now in
    explaining_script_stopped words.script.now words.log.now words.actor.now words.number (g.I.Inputs.tells c.args.inputs.now) (g.I.Inputs.tells c.load_script.new.inputs) c.in-Err.stop c.in-Err.ensures.told

pub returns-in-Err-load_run-clause-told : goal.returns-in-Err-load_run-clause-told
returns-in-Err-load_run-clause-told g c =
    let words = c.args.words.now in
    explaining_run_stopped words.script.now words.log.now words.actor.now words.number c.in-Ok.plan c.in-Ok.ensures.typed (g.I.Inputs.tells c.args.inputs.now) (g.I.Inputs.tells c.load_script.new.inputs) (g.I.Inputs.tells c.load_run.new.inputs)
    c.in-Err-load_run.stop c.in-Ok.ensures.told c.in-Err-load_run.ensures.told

pub returns-in-Ok-load_run-clause-told : goal.returns-in-Ok-load_run-clause-told
returns-in-Ok-load_run-clause-told g c =
    let words = c.args.words.now in
    explaining_replied words.script.now words.log.now words.actor.now words.number c.in-Ok.plan c.in-Ok.ensures.typed (g.I.Inputs.tells c.args.inputs.now) (g.I.Inputs.tells c.load_script.new.inputs) (g.I.Inputs.tells c.load_run.new.inputs)
    c.in-Ok-load_run.read c.explained.result c.in-Ok.ensures.told c.in-Ok-load_run.ensures.told c.explained.ensures.verdict
