use Rattle.std.specs.Option.{option_map}
use Rattle.command_words.specs.Views.{bytes_of}
use Rattle.look_command.proofs.RunLemmas.{reacting_replied, reacting_run_stopped, reacting_script_stopped}
use Rattle.look_command.proofs.reacting.reactions_reply.Goals as goal

pub returns-in-Err-clause-told : goal.returns-in-Err-clause-told
returns-in-Err-clause-told g c =
    let words = c.args.words.now in
    reacting_script_stopped words.script.now words.log.now (option_map bytes_of words.actor) (g.I.Inputs.tells c.args.inputs.now) (g.I.Inputs.tells c.load_script.new.inputs) c.in-Err.stop c.in-Err.ensures.told

pub returns-in-Err-load_run-clause-told : goal.returns-in-Err-load_run-clause-told
returns-in-Err-load_run-clause-told g c =
    let words = c.args.words.now in
    reacting_run_stopped words.script.now words.log.now (option_map bytes_of words.actor) c.in-Ok.plan c.in-Ok.ensures.typed (g.I.Inputs.tells c.args.inputs.now) (g.I.Inputs.tells c.load_script.new.inputs) (g.I.Inputs.tells c.load_run.new.inputs)
    c.in-Err-load_run.stop c.in-Ok.ensures.told c.in-Err-load_run.ensures.told

pub returns-in-Ok-load_run-clause-told : goal.returns-in-Ok-load_run-clause-told
returns-in-Ok-load_run-clause-told g c =
    let words = c.args.words.now in
    reacting_replied words.script.now words.log.now (option_map bytes_of words.actor) c.in-Ok.plan c.in-Ok.ensures.typed (g.I.Inputs.tells c.args.inputs.now) (g.I.Inputs.tells c.load_script.new.inputs) (g.I.Inputs.tells c.load_run.new.inputs)
    c.in-Ok-load_run.read c.reacted.result c.in-Ok.ensures.told c.in-Ok-load_run.ensures.told c.reacted.ensures.verdict
