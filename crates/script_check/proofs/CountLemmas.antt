-- A guard of the plan makes as many comparisons as that of the tree.
use Rattle.std.proofs.Common.{◌≡◌, ◌∙◌, ℕ, ◌+◌, List, [], ◌∷◌, ◌++◌, length, map, refl, arith}
use Rattle.std.specs.List.{sum_by}
use Rattle.std.proofs.lemmas.List.{length-append}
use Rattle.std.proofs.lemmas.List.Sums.{sum_by-cons}
use Rattle.script_grammar.specs.Atoms.{Atom, Atoms, compares, negated, grouped, no_atoms, either}
use Rattle.script_names.specs.Scope.{Variable}
use Rattle.script_types.specs.Typed.{comparison_count}
use Rattle.script_faults.specs.Faults.{Comparing, atom_comparisons, comparisons, guard_comparisons}
use Rattle.script_plan.specs.PlanOf.{atom_of, condition_of}

both_counts : (a b : List Comparing) (n m : ℕ) → n ≡ length a → m ≡ length b → n + m ≡ length (a ++ b)
both_counts a b n m left right = let whole = length-append a b in omega (arith, left, right, whole)

mutual
  count_atom : (vs : List Variable) (a : Atom) → comparison_count (atom_of vs a) ≡ length (atom_comparisons a)
  count_atom vs (compares left relation right) = refl
  count_atom vs (negated a) = count_atom vs a
  count_atom vs (grouped atoms) = count_atoms vs atoms

  count_atoms : (vs : List Variable) (atoms : Atoms) → comparison_count (condition_of vs atoms) ≡ length (comparisons atoms)
  count_atoms vs no_atoms = refl
  count_atoms vs (either a atoms) =
      both_counts (atom_comparisons a) (comparisons atoms) (comparison_count (atom_of vs a)) (comparison_count (condition_of vs atoms)) (count_atom vs a) (count_atoms vs atoms)

pub count_guard : (vs : List Variable) (guard : List Atoms) → sum_by comparison_count (map (condition_of vs) guard) ≡ length (guard_comparisons guard)
count_guard vs [] = refl
count_guard vs (atoms ∷ guard) =
    sum_by-cons comparison_count (condition_of vs atoms) (map (condition_of vs) guard)
    ∙ both_counts (comparisons atoms) (guard_comparisons guard) (comparison_count (condition_of vs atoms)) (sum_by comparison_count (map (condition_of vs) guard)) (count_atoms vs atoms) (count_guard vs guard)
