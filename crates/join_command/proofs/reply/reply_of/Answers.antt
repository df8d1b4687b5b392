use Rattle.join_command.proofs.ReplyLemmas.{load_replied}
use Rattle.join_command.proofs.reply.reply_of.Goals as goal

pub returns-in-Load-clause-told : goal.returns-in-Load-clause-told
returns-in-Load-clause-told g c = rw c.in-Load.is (load_replied c.in-Load.rows (g.I.Inputs.tells c.args.inputs.now))
