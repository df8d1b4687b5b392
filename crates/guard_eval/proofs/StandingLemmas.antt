-- How the patterns of some variables stand, and whether a conjunct is decided.
use Rattle.std.proofs.Common.{◌≡◌, ℕ, ◌+◌, ◌<◌, length, drop, get_or, sym, List, [], ◌∷◌, ◌++◌, Bool, true, false, ◌&&◌, refl, ap, ◌∙◌}
use Rattle.std.specs.List.{list_all}
use Rattle.std.proofs.lemmas.List.{drop_more}
use Rattle.std.proofs.lemmas.List.Sums.{fold-append}
use Rattle.guard_eval.specs.declared.conjunct.Atom.{Atom}
use Rattle.guard_eval.specs.declared.standing.Standing.{Standing}
use Rattle.guard_eval.specs.declared.standing.Standing.TheVariants.{NoVariable, Filled, Open}
use Rattle.guard_eval.specs.Meaning.{Assignment, Need, has_some, is_filled, needs_of}
use Rattle.guard_eval.specs.Shape.{atom_condition, atoms_condition}
use Rattle.guard_eval.specs.Standing.{all_filled, standing_beside, with_one}

-- variables one list after the other
pub standing_beside-append : (slots : Assignment) (before : Standing) (needs more : List Need) → standing_beside slots before (needs ++ more) ≡ standing_beside slots (standing_beside slots before needs) more
standing_beside-append slots before needs more = fold-append (λ (s : Standing) (n : Need). with_one s (is_filled slots n)) before needs more

-- one empty pattern is enough
stays_open : (slots : Assignment) (needs : List Need) → standing_beside slots Open needs ≡ Open
stays_open slots [] = refl
stays_open slots (need ∷ needs) = by (is_filled slots need) (stays_open slots needs)
  where
    by : (b : Bool) → standing_beside slots Open needs ≡ Open → standing_beside slots (with_one Open b) needs ≡ Open
    by true later = later
    by false later = later

stays_filled : (slots : Assignment) (needs : List Need) → all_filled (standing_beside slots Filled needs) ≡ list_all (is_filled slots) needs
stays_filled slots [] = refl
stays_filled slots (need ∷ needs) = by (is_filled slots need) (stays_filled slots needs)
  where
    by : (b : Bool) → all_filled (standing_beside slots Filled needs) ≡ list_all (is_filled slots) needs → all_filled (standing_beside slots (with_one Filled b) needs) ≡ (b && list_all (is_filled slots) needs)
    by true later = later
    by false later = ap all_filled (stays_open slots needs)

-- there is a variable, and the pattern of each is filled
pub decided_by_standing : (slots : Assignment) (needs : List Need) → all_filled (standing_beside slots NoVariable needs) ≡ (has_some needs && list_all (is_filled slots) needs)
decided_by_standing slots [] = refl
decided_by_standing slots (need ∷ needs) = by (is_filled slots need)
  where
    by : (b : Bool) → all_filled (standing_beside slots (with_one NoVariable b) needs) ≡ (b && list_all (is_filled slots) needs)
    by true = stays_filled slots needs
    by false = ap all_filled (stays_open slots needs)

-- the first of the atoms that are left, and then the others
pub standing_beside-atoms : (slots : Assignment) (before : Standing) (atoms : List Atom) (i : ℕ) (atom : Atom) → i < length atoms → atom ≡ get_or atoms i atom
    → standing_beside slots before (needs_of (atoms_condition (drop i atoms))) ≡ standing_beside slots (standing_beside slots before (needs_of (atom_condition atom))) (needs_of (atoms_condition (drop (i + 1) atoms)))
standing_beside-atoms slots before atoms i atom within is =
    let later : List Need = needs_of (atoms_condition (drop (i + 1) atoms)) in
    ap (λ (as' : List Atom). standing_beside slots before (needs_of (atoms_condition as'))) (drop_more atoms i atom within)
    ∙ standing_beside-append slots before (needs_of (atom_condition (get_or atoms i atom))) later
    ∙ ap (λ (a : Atom). standing_beside slots (standing_beside slots before (needs_of (atom_condition a))) later) (sym is)
