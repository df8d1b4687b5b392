use Rattle.std.proofs.Common.{◌+◌, ◌*◌, ◌≤◌, length}
use Rattle.script_tokens.specs.declared.token.Mark.TheVariants as m
use Rattle.script_tokens.specs.Marks.{kind_is}
use Rattle.script_grammar.specs.ScriptReading.{after_mark, further, atom_read}
use Rattle.script_grammar.proofs.PassedLoops.{IsPassing}
use Rattle.script_grammar.proofs.skipped_terms.+skipped_atoms.Given as goal

abbrev pub decreases-skip_atom : goal.decreases-skip_atom
decreases-skip_atom l = 5 * l.depth

abbrev pub decreases-skip_further_atom : goal.decreases-skip_further_atom
decreases-skip_further_atom l = 5 * l.depth + 1

abbrev pub decreases-skip_further_atoms : goal.decreases-skip_further_atoms
decreases-skip_further_atoms l = 5 * l.depth + 2

abbrev pub decreases-skip_atoms : goal.decreases-skip_atoms
decreases-skip_atoms l = 5 * l.depth + 3

abbrev pub decreases-skip_not : goal.decreases-skip_not
decreases-skip_not l = 5 * l.depth + 1

abbrev pub decreases-skip_group : goal.decreases-skip_group
decreases-skip_group l = 5 * l.depth + 4

abbrev pub invariant-skip_further_atoms-list : goal.invariant-skip_further_atoms-list
invariant-skip_further_atoms-list l = record {
  left : IsPassing (kind_is m.Or) (after_mark m.Or (atom_read l.fn.depth)) l.tokens (further m.Or (atom_read l.fn.depth) l.initial.tokens);
  no_longer : length l.tokens ≤ length l.initial.tokens;
}

abbrev pub decreases-skip_further_atoms-list : goal.decreases-skip_further_atoms-list
decreases-skip_further_atoms-list l = length l.tokens
