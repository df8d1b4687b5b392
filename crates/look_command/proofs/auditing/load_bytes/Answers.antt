use Rattle.look_command.proofs.ReplyLemmas.{bytes_loaded, bytes_unfetched}
use Rattle.look_command.proofs.auditing.load_bytes.Goals as goal

pub returns-in-Ok-clause-told : goal.returns-in-Ok-clause-told
returns-in-Ok-clause-told g c = bytes_loaded (g.I.Inputs.tells c.args.inputs.now) (g.I.Inputs.tells c.fetch.new.self) c.args.name.now c.in-Ok.file (rw c.as_str.ensures.same at c.in-Ok.ensures.told) c.in-Ok.ensures.within

pub returns-in-Err-clause-told : goal.returns-in-Err-clause-told
returns-in-Err-clause-told g c =
    rw c.fetch_stop.ensures (bytes_unfetched (g.I.Inputs.tells c.args.inputs.now) (g.I.Inputs.tells c.fetch.new.self) c.args.name.now c.in-Err.fault (rw c.as_str.ensures.same at c.in-Err.ensures.told))
