use Rattle.script_faults.proofs.GuardLemmas.{noted_conjunct}
use Rattle.script_faults.proofs.guard.ComparedNoter.note.Goals as goal

pub returns-clause-gives : goal.returns-clause-gives
returns-clause-gives c = noted_conjunct c.args.self.now c.note_atoms.new.compared c.args.tokens.now c.note_atoms.new.tokens c.in_ok-note_atoms.ensures.gives
