use Rattle.std.proofs.Common.{◌+◌, ◌*◌, ◌≤◌, length}
use Rattle.script_tokens.specs.declared.token.Mark.TheVariants as m
use Rattle.script_tokens.specs.Marks.{kind_is}
use Rattle.script_grammar.specs.ScriptReading.{after_mark, further, atom_read}
use Rattle.script_faults.specs.Steps.{atom_after}
use Rattle.script_grammar.proofs.WalkLemmas.{IsNoted}
use Rattle.script_faults.proofs.guard.+atoms.Given as goal

abbrev pub decreases-note_atom : goal.decreases-note_atom
decreases-note_atom l = 5 * l.depth

abbrev pub decreases-note_further_atom : goal.decreases-note_further_atom
decreases-note_further_atom l = 5 * l.depth + 1

abbrev pub decreases-note_further_atoms : goal.decreases-note_further_atoms
decreases-note_further_atoms l = 5 * l.depth + 2

abbrev pub decreases-note_atoms : goal.decreases-note_atoms
decreases-note_atoms l = 5 * l.depth + 3

abbrev pub decreases-note_not : goal.decreases-note_not
decreases-note_not l = 5 * l.depth + 1

abbrev pub decreases-note_group : goal.decreases-note_group
decreases-note_group l = 5 * l.depth + 4

abbrev pub invariant-note_further_atoms-list : goal.invariant-note_further_atoms-list
invariant-note_further_atoms-list l = record {
  noted : IsNoted atom_after (kind_is m.Or) (after_mark m.Or (atom_read l.fn.depth)) l.initial.compared l.compared l.tokens (further m.Or (atom_read l.fn.depth) l.initial.tokens);
  no_longer : length l.tokens ≤ length l.initial.tokens;
}

abbrev pub decreases-note_further_atoms-list : goal.decreases-note_further_atoms-list
decreases-note_further_atoms-list l = length l.tokens
