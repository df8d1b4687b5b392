use Rattle.command_words.specs.Views.{words_in}
use Rattle.look_command.proofs.ReplyLemmas.{log_audited, log_stopped, script_stopped}
use Rattle.look_command.proofs.auditing.audit_reply.Goals as goal

pub returns-in-Err-clause-told : goal.returns-in-Err-clause-told
returns-in-Err-clause-told g c =
    script_stopped c.args.words.now.script.now c.args.words.now.log.now (words_in c.args.words.now.feeds.items) (g.I.Inputs.tells c.args.inputs.now) (g.I.Inputs.tells c.load_script.new.inputs) c.in-Err.stop c.in-Err.ensures.told

pub returns-in-Err-load_bytes-clause-told : goal.returns-in-Err-load_bytes-clause-told
returns-in-Err-load_bytes-clause-told g c =
    log_stopped c.args.words.now.script.now c.args.words.now.log.now (words_in c.args.words.now.feeds.items) c.in-Ok.plan c.in-Ok.ensures.typed (g.I.Inputs.tells c.args.inputs.now) (g.I.Inputs.tells c.load_script.new.inputs)
    (g.I.Inputs.tells c.load_bytes.new.inputs) c.in-Err-load_bytes.stop c.in-Ok.ensures.told c.in-Err-load_bytes.ensures.told

pub returns-clause-told : goal.returns-clause-told
returns-clause-told g c =
    log_audited c.args.words.now.script.now c.args.words.now.log.now (words_in c.args.words.now.feeds.items) c.in-Ok.plan c.in-Ok.ensures.typed (g.I.Inputs.tells c.args.inputs.now) (g.I.Inputs.tells c.load_script.new.inputs)
    (g.I.Inputs.tells c.load_bytes.new.inputs) (g.I.Inputs.tells c.audit_feeds.new.inputs) c.in-Ok-load_bytes.log c.audit_feeds.result c.in-Ok.ensures.told c.in-Ok-load_bytes.ensures.told
    (rw c.as_slice.ensures.value at (rw c.bytes.ensures.same at c.audit_feeds.ensures.told))
