use Rattle.script_faults.proofs.TermLemmas.{leaves_noted}
use Rattle.script_faults.proofs.term.note_leaves.Goals as goal

pub returns-clause-gives : goal.returns-clause-gives
returns-clause-gives c = leaves_noted _ c.note_repeated.new.noter c.note_repeated.new.tokens _ c.in_ok-note_repeated.ensures.gives
