-- The only atom of a conjunct, and the variables of atoms.
use Rattle.std.proofs.Common.{◌≡◌, ◌∙◌, ◌<◌, ◌≤◌, arith, List, [], ◌∷◌, ◌++◌, length, false, ◌||◌, None, refl, ap, sym}
use Rattle.guard_eval.specs.declared.conjunct.Atom.{Atom, Group}
use Rattle.guard_eval.specs.declared.conjunct.Conjunct.{Conjunct}
use Rattle.guard_eval.specs.Condition.{Condition, Grouped}
use Rattle.guard_eval.proofs.GroupLemmas.{atom_condition-Group}
use Rattle.guard_eval.specs.Meaning.{Need, has_some}
use Rattle.guard_eval.specs.Shape.{atom_condition, atoms_condition, conjunct_condition}
use Rattle.script_lint.specs.Bounds.{only_atom}
use Rattle.script_lint.specs.Same.{is_same}

pub only_atom-none : (atoms : List Atom) → ¬ (length atoms ≡ 1) → only_atom (atoms_condition atoms) ≡ None
only_atom-none [] h = refl
only_atom-none (a ∷ []) h = absurd (h refl)
only_atom-none (a ∷ b ∷ atoms) h = refl

pub has_some-append : (xs ys : List Need) → has_some (xs ++ ys) ≡ (has_some xs || has_some ys)
has_some-append [] ys = refl
has_some-append (x ∷ xs) ys = refl

pub ruleset variables = (has_some-append)

-- ---- equal groups

same_groups : (a b : Conjunct) → is_same (atom_condition (Group a)) (atom_condition (Group b)) ≡ is_same (conjunct_condition a) (conjunct_condition b)
same_groups a b = ap (λ (x : Condition). is_same x (atom_condition (Group b))) (atom_condition-Group a) ∙ ap (is_same (Grouped (conjunct_condition a))) (atom_condition-Group b)

pub same_group_atoms : (x y : Atom) (a b : Conjunct) (xs ys : List Atom) → x ≡ Group a → y ≡ Group b → xs ≡ a.atoms.items → ys ≡ b.atoms.items → is_same (atoms_condition xs) (atoms_condition ys) ≡ is_same (atom_condition x) (atom_condition y)
same_group_atoms x y a b xs ys e f p q =
    ap (λ (v : List Atom). is_same (atoms_condition v) (atoms_condition ys)) p
    ∙ ap (λ (v : List Atom). is_same (conjunct_condition a) (atoms_condition v)) q
    ∙ sym (same_groups a b)
    ∙ sym (ap (λ (v : Atom). is_same (atom_condition v) (atom_condition (Group b))) e)
    ∙ sym (ap (λ (v : Atom). is_same (atom_condition x) (atom_condition v)) f)

pub none_and_some : (xs ys : List Atom) → length xs < 1 → 1 ≤ length ys → false ≡ is_same (atoms_condition xs) (atoms_condition ys)
none_and_some (x ∷ xs) ys l m = absurd (omega arith)
none_and_some [] [] l m = absurd (omega arith)
none_and_some [] (y ∷ ys) l m = refl
