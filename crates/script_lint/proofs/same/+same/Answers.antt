use Rattle.std.proofs.Common.{List, ap, arith, ◌∙◌}
use Rattle.guard_eval.specs.declared.conjunct.Atom.{Atom}
use Rattle.guard_eval.specs.Condition.{size_of}
use Rattle.guard_eval.specs.Shape.{atom_condition, atoms_condition}
use Rattle.guard_eval.proofs.ReadyLemmas.{group_is_smaller}
use Rattle.script_lint.proofs.AtomLemmas.{none_and_some, same_group_atoms}
use Rattle.script_lint.proofs.same.+same.Goals as goal

pub is_same_atom-are_same_atoms-requires : goal.is_same_atom-are_same_atoms-requires
is_same_atom-are_same_atoms-requires t c =
    (omega (arith, group_is_smaller c.in-Group-Group.a, ap (λ (a : Atom). size_of (atom_condition a)) c.in-Group-Group.is-0, ap (λ (as' : List Atom). size_of (atoms_condition as')) c.as_slice.ensures.value), tt)

pub is_same_atom-returns-in-Group-Group : goal.is_same_atom-returns-in-Group-Group
is_same_atom-returns-in-Group-Group t c =
    c.are_same_atoms.ensures
    ∙ same_group_atoms c.args.first.now c.args.second.now c.in-Group-Group.a c.in-Group-Group.b c.as_slice.result.now c.as_slice-in-Group-Group.result.now c.in-Group-Group.is-0 c.in-Group-Group.is-1 c.as_slice.ensures.value c.as_slice-in-Group-Group.ensures.value

pub are_same_atoms-returns-in-len1-up-second : goal.are_same_atoms-returns-in-len1-up-second
are_same_atoms-returns-in-len1-up-second t c = none_and_some c.args.first.now c.args.second.now (omega (arith, c.in-empty.len_below)) (omega (arith, c.in-len1-up-second.len_at_least))
