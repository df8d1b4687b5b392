use Rattle.look_command.specs.Replying.{replied_with}
use Rattle.look_command.proofs.ReplyLemmas.{audited_reads}
use Rattle.look_command.proofs.auditing.audit_counted.Goals as goal

pub returns-clause-answer : goal.returns-clause-answer
returns-clause-answer g c =
    audited_reads c.args.plan.now c.args.bytes.now c.args.feeds.now c.audit-answer.result (replied_with c.audited.result) c.audit-answer.ensures.answer c.audited.ensures.reply
