use Rattle.std.proofs.Common.{refl}
use Rattle.script_faults.proofs.TermLemmas.{leaf_noted}
use Rattle.script_faults.proofs.term.LeavesNoter.note.Goals as goal

pub returns-clause-gives : goal.returns-clause-gives
returns-clause-gives c = record {
  phrase = c.in_ok-leaf.leaf;
  reads = c.in_ok-leaf.ensures.gives;
  holds = leaf_noted c.args.self.now _ c.in_ok-leaf.leaf c.note_leaf.new.found refl c.in_ok-note_number.ensures.number c.note_leaf.ensures c.note_number.ensures.found;
}
