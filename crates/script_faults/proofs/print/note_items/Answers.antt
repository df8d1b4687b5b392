use Rattle.script_faults.proofs.PrintLemmas.{noted_items}
use Rattle.script_faults.proofs.print.note_items.Goals as goal

pub returns-clause-gives : goal.returns-clause-gives
returns-clause-gives c =
    noted_items c.args.variables c.args.found.now c.note.new.self c.note_repeated.new.noter c.args.tokens.now c.note.new.tokens c.note_repeated.new.tokens c.in_ok-note.ensures.gives c.in_ok-note_repeated.ensures.gives
