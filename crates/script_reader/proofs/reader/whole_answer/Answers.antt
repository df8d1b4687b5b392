use Rattle.script_reader.proofs.SpellsLemmas.{refused_is, spells_outline}
use Rattle.script_reader.proofs.reader.whole_answer.Goals as goal

pub returns-in-Err-Refused : goal.returns-in-Err-Refused
returns-in-Err-Refused c =
    rw c.fault_at.ensures (refused_is c.args.bytes.now c.args.tokens.now c.outline_at.new.tokens c.requires.text c.requires.cut
    (rw c.in-Err-Refused.field-0-is at c.in-Err-Refused.ensures.answers))

pub returns-in-Ok : goal.returns-in-Ok
returns-in-Ok c = spells_outline c.filled_law.ensures c.args.bytes.now c.args.tokens.now c.in-Ok.outline c.requires.text c.requires.cut c.in-Ok.ensures.answers
