use Rattle.command_words.specs.Views.{words_in}
use Rattle.script_files.specs.Verdict.{Feeds}
use Rattle.look_command.specs.declared.reply.Reply.{Reply}
use Rattle.script_files.proofs.LoadLemmas.{quiet_cause}
use Rattle.look_command.proofs.ReplyLemmas.{cause_behind, feeds_audited, feeds_stopped}
use Rattle.look_command.proofs.auditing.audit_feeds.Goals as goal

pub returns-in-Err-clause-told : goal.returns-in-Err-clause-told
returns-in-Err-clause-told g c =
    rw c.stop_behind.ensures (feeds_stopped c.args.plan.now c.args.bytes.now (words_in c.args.names.now) (g.I.Inputs.tells c.args.inputs.now) (g.I.Inputs.tells c.load_feeds.new.inputs) c.in-Err.stop c.in-Err.ensures.told)

pub returns-in-Err-clause-cause : goal.returns-in-Err-clause-cause
returns-in-Err-clause-cause g c = rw c.stop_behind.ensures (cause_behind Feeds Reply (g.I.Inputs.faults c.args.inputs.now) (g.I.Inputs.faults c.load_feeds.new.inputs) c.in-Err.stop c.in-Err.ensures.cause)

pub returns-in-Ok-clause-told : goal.returns-in-Ok-clause-told
returns-in-Ok-clause-told g c =
    feeds_audited c.args.plan.now c.args.bytes.now (words_in c.args.names.now) (g.I.Inputs.tells c.args.inputs.now) (g.I.Inputs.tells c.load_feeds.new.inputs) c.in-Ok.feeds c.audit_bytes.result c.in-Ok.ensures.told c.audit_bytes.ensures.answer

pub returns-in-Ok-clause-cause : goal.returns-in-Ok-clause-cause
returns-in-Ok-clause-cause g c = quiet_cause (g.I.Inputs.faults c.args.inputs.now) (g.I.Inputs.faults c.load_feeds.new.inputs) c.audit_bytes.result c.in-Ok.ensures.cause c.audit_bytes.ensures.read
