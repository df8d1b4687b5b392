use Rattle.join_command.proofs.ReplyLemmas.{log_replayed, replay_log_stopped, replay_script_stopped}
use Rattle.join_command.proofs.reply.replay_reply.Goals as goal

pub returns-in-Err-clause-told : goal.returns-in-Err-clause-told
returns-in-Err-clause-told g c = replay_script_stopped c.args.script.now c.args.log.now (g.I.Inputs.tells c.args.inputs.now) (g.I.Inputs.tells c.load_script.new.inputs) c.in-Err.stop c.in-Err.ensures.told

pub returns-in-Err-load_log-clause-told : goal.returns-in-Err-load_log-clause-told
returns-in-Err-load_log-clause-told g c =
    replay_log_stopped c.args.script.now c.args.log.now c.in-Ok.plan c.in-Ok.ensures.typed (g.I.Inputs.tells c.args.inputs.now) (g.I.Inputs.tells c.load_script.new.inputs) (g.I.Inputs.tells c.load_log.new.inputs) c.in-Err-load_log.stop
    c.in-Ok.ensures.told c.in-Err-load_log.ensures.told

pub returns-clause-told : goal.returns-clause-told
returns-clause-told g c =
    log_replayed c.args.script.now c.args.log.now c.in-Ok.plan c.in-Ok.ensures.typed (g.I.Inputs.tells c.args.inputs.now) (g.I.Inputs.tells c.load_script.new.inputs) (g.I.Inputs.tells c.load_log.new.inputs) c.in-Ok-load_log.arrivals
    c.in-Ok.ensures.told c.in-Ok-load_log.ensures.told
