use Rattle.look_command.proofs.TopLemmas.{all_written, nothing_written, write_failed}
use Rattle.look_command.proofs.top.look_main.Goals as goal

pub returns-in-Ok-clause-answer : goal.returns-in-Ok-clause-answer
returns-in-Ok-clause-answer g c =
    write_failed c.args.words.now (g.I.Inputs.tells c.args.inputs.now) (g.I.Inputs.tells c.prepare.new.inputs) (g.S.CountingSink.taken c.args.out.now) (g.S.CountingSink.taken c.write_all.new.out) c.in-Ok.status c.in-Ok.output
    c.in-Err.field-0 c.in-Ok.ensures.told (rw c.bytes.ensures.same at c.in-Err.ensures.told)

pub returns-in-Ok-write_all-clause-answer : goal.returns-in-Ok-write_all-clause-answer
returns-in-Ok-write_all-clause-answer g c =
    all_written c.args.words.now (g.I.Inputs.tells c.args.inputs.now) (g.I.Inputs.tells c.prepare.new.inputs) (g.S.CountingSink.taken c.args.out.now) (g.S.CountingSink.taken c.write_all.new.out) c.in-Ok.status c.in-Ok.output
    tt c.in-Ok.ensures.answered c.in-Ok.ensures.told (rw c.bytes.ensures.same at c.in-Ok-write_all.ensures.told)

pub returns-clause-answer : goal.returns-clause-answer
returns-clause-answer g c = nothing_written c.args.words.now (g.I.Inputs.tells c.args.inputs.now) (g.I.Inputs.tells c.prepare.new.inputs) (g.S.CountingSink.taken c.args.out.now) c.in-Err-NoMemory.field-0 c.in-Err-NoMemory.ensures.told
