-- The text of a condition, by its atoms.
use Rattle.std.proofs.Common.{◌≡◌, ◌∙◌, ℕ, ◌≤◌, List, [], ◌∷◌, ◌++◌, append_assoc, ap, get_or, length, map, refl, sym, take}
use Rattle.std.specs.Prelude.{codes}
use Rattle.std.specs.List.{flat_map}
use Rattle.std.proofs.lemmas.List.{append-nil}
use Rattle.std.proofs.lemmas.List.Folds.{flat_map-map}
use Rattle.guard_eval.specs.declared.conjunct.Atom.{Atom, Compare, Not', Group, Group'}
use Rattle.guard_eval.specs.declared.conjunct.Conjunct.{Conjunct}
use Rattle.guard_eval.specs.Condition.{Condition}
use Rattle.guard_eval.specs.Shape.{atom_condition, row_condition, atoms_condition, conjunct_condition}
use Rattle.guard_eval.proofs.GroupLemmas.{atom_condition-Group}
use Rattle.plan_text.specs.GuardText.{atom_texts, comparison_text, condition_text, either_text, guard_text}
use Rattle.plan_text.specs.PlanNames.{Variables}
use Rattle.plan_text.proofs.RestLemmas.{first_and_rest, rest}

pub one_text : (text : List ℕ) → text ∷ [] ≡ either_text (text ∷ []) ∷ []
one_text text = ap (λ (t : List ℕ). t ∷ []) (sym (append-nil text))

-- an atom has one text
atom_texts-atom : (variables : Variables) (atom : Atom) → atom_texts variables (atom_condition atom) ≡ condition_text variables (atom_condition atom) ∷ []
atom_texts-atom variables (Compare left relation right) = one_text (comparison_text variables left relation right)
atom_texts-atom variables (Not' p atom) = one_text (codes "!" ++ condition_text variables (atom_condition atom))
atom_texts-atom variables (Group' shape atoms) = one_text (codes "(" ++ (condition_text variables (row_condition atoms) ++ codes ")"))

abbrev atom_text : Variables → Atom → List ℕ
atom_text variables atom = condition_text variables (atom_condition atom)

atom_texts-atoms : (variables : Variables) (atoms : List Atom) → atom_texts variables (atoms_condition atoms) ≡ map (atom_text variables) atoms
atom_texts-atoms variables [] = refl
atom_texts-atoms variables (atom ∷ atoms) =
    ap (λ (texts : List (List ℕ)). texts ++ atom_texts variables (atoms_condition atoms)) (atom_texts-atom variables atom)
    ∙ ap (λ (texts : List (List ℕ)). atom_text variables atom ∷ texts) (atom_texts-atoms variables atoms)

-- the first atom, and then the further ones
pub condition_text-atoms : (variables : Variables) (atom : Atom) (atoms : List Atom) → condition_text variables (atoms_condition (atom ∷ atoms)) ≡ atom_text variables atom ++ flat_map (λ a. codes " || " ++ atom_text variables a) atoms
condition_text-atoms variables atom atoms =
    ap either_text (atom_texts-atoms variables (atom ∷ atoms))
    ∙ ap (λ (text : List ℕ). atom_text variables atom ++ text) (flat_map-map (λ (t : List ℕ). codes " || " ++ t) (atom_text variables) atoms)

-- a group is written: `(`, its conjunct, and `)`
pub group_written : (variables : Variables) (conjunct : Conjunct) (atom : Atom) (start opened inside closed : List ℕ) → atom ≡ Group conjunct → opened ≡ start ++ codes "(" → inside ≡ opened ++ condition_text variables (conjunct_condition conjunct) → closed ≡ inside ++ codes ")" → closed ≡ start ++ condition_text variables (atom_condition atom)
group_written variables conjunct atom start opened inside closed is opened_is inside_is closed_is =
    let text : List ℕ = condition_text variables (conjunct_condition conjunct) in
    closed_is
    ∙ ap (λ (t : List ℕ). t ++ codes ")") (inside_is ∙ ap (λ (t : List ℕ). t ++ text) opened_is)
    ∙ append_assoc (start ++ codes "(") text (codes ")")
    ∙ append_assoc start (codes "(") (text ++ codes ")")
    ∙ ap (λ (t : List ℕ). start ++ t) (sym (append-nil (codes "(" ++ (text ++ codes ")"))))
    ∙ ap (λ (c : Condition). start ++ condition_text variables c) (sym (atom_condition-Group conjunct) ∙ ap atom_condition (sym is))

-- the first conjunct of a guard, and then the further ones
pub guard_text-conjuncts : (variables : Variables) (conjunct : Conjunct) (conjuncts : List Conjunct) → guard_text variables (map conjunct_condition (conjunct ∷ conjuncts))
    ≡ codes " if " ++ (condition_text variables (conjunct_condition conjunct) ++ flat_map (λ c. codes " && " ++ condition_text variables (conjunct_condition c)) conjuncts)
guard_text-conjuncts variables conjunct conjuncts =
    ap (λ (text : List ℕ). codes " if " ++ (condition_text variables (conjunct_condition conjunct) ++ text))
    (flat_map-map (λ (c : Condition). codes " && " ++ condition_text variables c) conjunct_condition conjuncts)

-- a conjunct is written: its first atom, and then the further ones
pub conjunct_written : (variables : Variables) (atoms : List Atom) (first : Atom) (i : ℕ) (start begun now : List ℕ) → 1 ≤ length atoms → first ≡ get_or atoms 0 first → length (rest atoms) ≤ i
    → begun ≡ start ++ atom_text variables first → now ≡ begun ++ flat_map (λ a. codes " || " ++ atom_text variables a) (take i (rest atoms)) → now ≡ start ++ condition_text variables (atoms_condition atoms)
conjunct_written variables atoms first i start begun now some first_is all begun_is now_is =
    let further : List ℕ = flat_map (λ a. codes " || " ++ atom_text variables a) (take i (rest atoms)) in
    now_is
    ∙ ap (λ (text : List ℕ). text ++ further) begun_is
    ∙ append_assoc start (atom_text variables first) further
    ∙ ap (λ (text : List ℕ). start ++ text) (sym (condition_text-atoms variables first (take i (rest atoms))))
    ∙ ap (λ (as' : List Atom). start ++ condition_text variables (atoms_condition as')) (sym (first_and_rest atoms first i some first_is all))

-- a guard is written: ` if `, its first conjunct, and then the further ones
pub guard_written : (variables : Variables) (conjuncts : List Conjunct) (first : Conjunct) (i : ℕ) (start opened begun now : List ℕ) → 1 ≤ length conjuncts → first ≡ get_or conjuncts 0 first → length (rest conjuncts) ≤ i
    → opened ≡ start ++ codes " if " → begun ≡ opened ++ condition_text variables (conjunct_condition first)
    → now ≡ begun ++ flat_map (λ c. codes " && " ++ condition_text variables (conjunct_condition c)) (take i (rest conjuncts)) → now ≡ start ++ guard_text variables (map conjunct_condition conjuncts)
guard_written variables conjuncts first i start opened begun now some first_is all opened_is begun_is now_is =
    let text : List ℕ = condition_text variables (conjunct_condition first) in
    let further : List ℕ = flat_map (λ c. codes " && " ++ condition_text variables (conjunct_condition c)) (take i (rest conjuncts)) in
    now_is
    ∙ ap (λ (t : List ℕ). t ++ further) (begun_is ∙ ap (λ (t : List ℕ). t ++ text) opened_is)
    ∙ append_assoc (start ++ codes " if ") text further
    ∙ append_assoc start (codes " if ") (text ++ further)
    ∙ ap (λ (t : List ℕ). start ++ t) (sym (guard_text-conjuncts variables first (take i (rest conjuncts))))
    ∙ ap (λ (cs : List Conjunct). start ++ guard_text variables (map conjunct_condition cs)) (sym (first_and_rest conjuncts first i some first_is all))
