-- The atoms of a guard: their sizes, by which the translation ends, and one atom more.
use Rattle.std.proofs.Common.{◌≡◌, ◌∙◌, ℕ, zero, suc, ◌+◌, ◌<◌, ◌≤◌, Bool, true, false, List, [], ◌∷◌, ◌++◌, length, get_or, take, refl, ap, sym, subst, arith}
use Rattle.std.proofs.lemmas.List.{take_more}
use Rattle.guard_eval.specs.Condition.{Condition, Never, Negated, Grouped, Either, with_atom}
use Rattle.script_grammar.specs.declared.tree.AtomDecl.{AtomDecl, Group}
use Rattle.script_grammar.specs.declared.tree.ConjunctDecl.{ConjunctDecl}
use Rattle.script_grammar.specs.Atoms.{Atom, Atoms, compares, negated, grouped, no_atoms, either}
use Rattle.script_grammar.specs.declared.prefix.Prefix.{Prefix}
use Rattle.script_grammar.specs.Prefixes.{marks_of, under}
use Rattle.script_grammar.specs.AtomViews.{atom_view, atoms_view, conjunct_view}
use Rattle.script_grammar.proofs.GroupLemmas.{atom_view-Group}
use Rattle.script_names.specs.Scope.{Variable}
use Rattle.script_plan.specs.PlanOf.{atom_of, condition_of}
use Rattle.script_plan.specs.Marked.{condition_under}
use Rattle.script_plan.specs.Small.{AreSmallAtoms, IsSmallAtom}

abbrev mutual
  pub atom_size : Atom → ℕ
  atom_size (compares left relation right) = 1
  atom_size (negated atom) = atom_size atom + 1
  atom_size (grouped atoms) = atoms_size atoms + 1

  pub atoms_size : Atoms → ℕ
  atoms_size no_atoms = 1
  atoms_size (either atom atoms) = atom_size atom + atoms_size atoms + 1

-- ---- a prefix

size_under : (marks : List Bool) (atom : Atom) → atom_size atom ≤ atom_size (under marks atom)
size_under [] atom = omega arith
size_under (true ∷ marks) atom = omega (arith, size_under marks atom)
size_under (false ∷ marks) atom = omega (arith, size_under marks atom)

pub small_under : (marks : List Bool) (atom : Atom) → IsSmallAtom (under marks atom) → IsSmallAtom atom
small_under [] atom small = small
small_under (true ∷ marks) atom small = small_under marks atom small
small_under (false ∷ marks) atom small = small_under marks atom small.0

pub atom_of_under : (variables : List Variable) (marks : List Bool) (atom : Atom) → atom_of variables (under marks atom) ≡ condition_under marks (atom_of variables atom)
atom_of_under variables [] atom = refl
atom_of_under variables (true ∷ marks) atom = ap Negated (atom_of_under variables marks atom)
atom_of_under variables (false ∷ marks) atom = ap (λ (c : Condition). Grouped (Either c Never)) (atom_of_under variables marks atom)

-- ---- a group

pub group_is_smaller : (prefix : Prefix) (conjunct : ConjunctDecl) → atoms_size (conjunct_view conjunct) < atom_size (atom_view (Group prefix conjunct))
group_is_smaller prefix conjunct = omega (arith, ap atom_size (atom_view-Group prefix conjunct), size_under (marks_of prefix) (grouped (conjunct_view conjunct)))

pub group_is_small : (prefix : Prefix) (conjunct : ConjunctDecl) → IsSmallAtom (atom_view (Group prefix conjunct)) → AreSmallAtoms (conjunct_view conjunct)
group_is_small prefix conjunct small =
    let Small : Atom → Type 0 = λ (a : Atom). IsSmallAtom a in small_under (marks_of prefix) (grouped (conjunct_view conjunct)) (subst Small (atom_view-Group prefix conjunct) small)

-- what a group is translated to, from that of its conjunct
pub group_translated : (variables : List Variable) (prefix : Prefix) (conjunct : ConjunctDecl) (inner whole : Condition) → whole ≡ condition_under (marks_of prefix) (Grouped inner)
    → inner ≡ condition_of variables (conjunct_view conjunct) → whole ≡ atom_of variables (atom_view (Group prefix conjunct))
group_translated variables prefix conjunct inner whole made is =
    made
    ∙ ap (λ (c : Condition). condition_under (marks_of prefix) (Grouped c)) is
    ∙ sym (atom_of_under variables (marks_of prefix) (grouped (conjunct_view conjunct)))
    ∙ ap (atom_of variables) (sym (atom_view-Group prefix conjunct))

-- ---- an atom of a conjunct

pub atom_is_smaller : (atoms : List AtomDecl) (i : ℕ) (atom : AtomDecl) → i < length atoms → atom ≡ get_or atoms i atom → atom_size (atom_view atom) < atoms_size (atoms_view atoms)
atom_is_smaller [] i atom within is = absurd (omega arith)
atom_is_smaller (a ∷ atoms) zero atom within is = omega (arith, ap (λ (x : AtomDecl). atom_size (atom_view x)) is)
atom_is_smaller (a ∷ atoms) (suc i) atom within is = let later = atom_is_smaller atoms i atom (omega arith) is in omega (arith, later)

pub atom_is_small : (atoms : List AtomDecl) (i : ℕ) (atom : AtomDecl) → i < length atoms → atom ≡ get_or atoms i atom → AreSmallAtoms (atoms_view atoms) → IsSmallAtom (atom_view atom)
atom_is_small [] i atom within is small = absurd (omega arith)
atom_is_small (a ∷ atoms) zero atom within is small = let Small : AtomDecl → Type 0 = λ (x : AtomDecl). IsSmallAtom (atom_view x) in subst Small (sym is) small.0
atom_is_small (a ∷ atoms) (suc i) atom within is small = atom_is_small atoms i atom (omega arith) is small.1

condition_of-push : (variables : List Variable) (atoms : List AtomDecl) (atom : AtomDecl)
    → condition_of variables (atoms_view (atoms ++ atom ∷ [])) ≡ with_atom (condition_of variables (atoms_view atoms)) (atom_of variables (atom_view atom))
condition_of-push variables [] atom = refl
condition_of-push variables (a ∷ atoms) atom = ap (Either (atom_of variables (atom_view a))) (condition_of-push variables atoms atom)

-- one more atom is translated
pub condition_of-more : (variables : List Variable) (atoms : List AtomDecl) (i : ℕ) (atom : AtomDecl) (done one all : Condition) → i < length atoms → atom ≡ get_or atoms i atom
    → all ≡ with_atom done one → done ≡ condition_of variables (atoms_view (take i atoms)) → one ≡ atom_of variables (atom_view atom)
    → all ≡ condition_of variables (atoms_view (take (i + 1) atoms))
condition_of-more variables atoms i atom done one all within is made so_far here =
    made
    ∙ ap (λ (c : Condition). with_atom c one) so_far
    ∙ ap (with_atom (condition_of variables (atoms_view (take i atoms)))) (here ∙ ap (λ (a : AtomDecl). atom_of variables (atom_view a)) is)
    ∙ sym (condition_of-push variables (take i atoms) (get_or atoms i atom))
    ∙ ap (λ (as' : List AtomDecl). condition_of variables (atoms_view as')) (sym (take_more atoms i atom within))
