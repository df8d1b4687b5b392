-- A further atom behind a list of atoms.
use Rattle.std.proofs.Common.{◌≡◌, ◌∙◌, ℕ, ◌+◌, ◌<◌, List, [], ◌∷◌, ◌++◌, length, get_or, take, refl, ap, sym}
use Rattle.std.proofs.lemmas.List.{take_more}
use Rattle.guard_eval.specs.declared.conjunct.Atom.{Atom}
use Rattle.guard_eval.specs.Condition.{Condition, Either, with_atom}
use Rattle.guard_eval.specs.Shape.{atom_condition, atoms_condition}

pub atoms_condition-push : (atoms : List Atom) (atom : Atom) → atoms_condition (atoms ++ atom ∷ []) ≡ with_atom (atoms_condition atoms) (atom_condition atom)
atoms_condition-push [] atom = refl
atoms_condition-push (a ∷ atoms) atom = ap (Either (atom_condition a)) (atoms_condition-push atoms atom)

pub ruleset atoms = (atoms_condition-push)

-- one more atom of a list is copied
pub atoms_condition-copied : (copies originals : List Atom) (i : ℕ) (copy original : Atom) → i < length originals → original ≡ get_or originals i original → atoms_condition copies ≡ atoms_condition (take i originals) → atom_condition copy ≡ atom_condition original → atoms_condition (copies ++ copy ∷ []) ≡ atoms_condition (take (i + 1) originals)
atoms_condition-copied copies originals i copy original within is so_far here =
    atoms_condition-push copies copy
    ∙ ap (λ (c : Condition). with_atom c (atom_condition copy)) so_far
    ∙ ap (with_atom (atoms_condition (take i originals))) (here ∙ ap atom_condition is)
    ∙ sym (atoms_condition-push (take i originals) (get_or originals i original))
    ∙ ap atoms_condition (sym (take_more originals i original within))
