-- The reactions among the first arrivals.
use Rattle.std.proofs.Common.{◌≡◌, ◌∙◌, ℕ, ◌+◌, ◌<◌, ◌≤◌, Bool, true, false, List, [], ◌∷◌, ◌++◌, append_assoc, append-nil, drop, get_or, length, map, Option, None, Some, refl, sym, ap, subst}
use Rattle.std.specs.Prelude.{if◌then◌else◌}
use Rattle.std.specs.List.{AllByRecursion, cons_option}
use Rattle.std.proofs.lemmas.List.{drop_all, drop_more, map_push}
use Rattle.join_base.proofs.EachLemmas.{each_last}
use Rattle.feed_causes.specs.declared.reaction.Reaction.{Reaction}
use Rattle.feed_causes.specs.Causes.{AreRows, Arrived}
use Rattle.feed_causes.specs.Reactions.{AreReactions, HasRows, is_wanted, reaction_place, wanted_from}
use Rattle.feed_causes.specs.Search.{AreMarks, IsAt, IsFound, IsShort, rows_from}
use Rattle.feed_causes.proofs.RowLemmas.{rows_led}

-- the first nine of the rows among what is marked make a reaction
pub is_at : (all : List Arrived) (place : ℕ) (marks seen : List Bool) (rows shown : List ℕ) (reaction : Reaction) → AreMarks all place marks → seen ≡ marks → rows ≡ rows_from all 0 seen → shown ≡ rows → IsShort place shown reaction → IsAt all place reaction
is_at all place marks seen rows shown reaction are same is copy short =
    let led : AreRows all place shown = rows_led all place marks shown are (copy ∙ is ∙ ap (rows_from all 0) same) in (
      short.here,
      record {
        rows = shown;
        are = subst (λ (p : ℕ). AreRows all p shown) (sym short.here) led;
        nine = short.nine;
        others = short.others;
      },
    )

-- ---- one arrival after the other

-- the reactions of the arrivals in front of a place
pub record AreFound (all : List Arrived) (only : Option ℕ) (place : ℕ) (reactions : List Reaction) : Type 0 where
  pub behind : map reaction_place reactions ++ wanted_from only place (drop place all) ≡ wanted_from only 0 all
  pub rows : AllByRecursion (HasRows all) reactions

pub none_found : (all : List Arrived) (only : Option ℕ) (reactions : List Reaction) → reactions ≡ [] → AreFound all only 0 reactions
none_found all only reactions empty =
    let none : AreFound all only 0 [] = record { behind = refl; rows = tt } in
    subst (λ (rs : List Reaction). AreFound all only 0 rs) (sym empty) none

module _ (all : List Arrived) (only : Option ℕ) (place : ℕ) (arrival : Arrived) (reactions : List Reaction) (within : place < length all) (is : arrival ≡ get_or all place arrival) (before : AreFound all only place reactions) where
  -- by whether the arrival is wanted
  behind_by : (b : Bool) → is_wanted only arrival ≡ b → map reaction_place reactions ++ cons_option (if b then Some place else None) (wanted_from only (place + 1) (drop (place + 1) all)) ≡ wanted_from only 0 all
  behind_by b wanted =
      ap (λ (t : Bool). map reaction_place reactions ++ cons_option (if t then Some place else None) (wanted_from only (place + 1) (drop (place + 1) all))) (sym wanted)
      ∙ ap (λ (first : Arrived). map reaction_place reactions ++ wanted_from only place (first ∷ drop (place + 1) all)) is
      ∙ ap (λ (more : List Arrived). map reaction_place reactions ++ wanted_from only place more) (sym (drop_more all place arrival within))
      ∙ before.behind

  with_found : (found : Option Reaction) → IsFound all only place arrival found → AreFound all only (place + 1) (reactions ++ cons_option found [])
  with_found None none =
      let same : AreFound all only (place + 1) reactions = record { behind = behind_by false none; rows = before.rows } in
      subst (λ (rs : List Reaction). AreFound all only (place + 1) rs) (sym (append-nil reactions)) same
  with_found (Some reaction) some = record {
    behind =
        ap (λ (places : List ℕ). places ++ wanted_from only (place + 1) (drop (place + 1) all)) (map_push reaction_place reactions reaction ∙ ap (λ (p : ℕ). map reaction_place reactions ++ p ∷ []) some.1.0)
        ∙ append_assoc (map reaction_place reactions) (place ∷ []) (wanted_from only (place + 1) (drop (place + 1) all))
        ∙ behind_by true some.0;
    rows = each_last (HasRows all) reactions reaction before.rows some.1.1;
  }

-- the reactions with what the next arrival comes to
pub next_found : (all : List Arrived) (only : Option ℕ) (place : ℕ) (arrival : Arrived) (reactions after : List Reaction) (found : Option Reaction) → place < length all → arrival ≡ get_or all place arrival → AreFound all only place reactions
    → IsFound all only place arrival found → after ≡ reactions ++ cons_option found [] → AreFound all only (place + 1) after
next_found all only place arrival reactions after found within is before what pushed =
    subst (λ (rs : List Reaction). AreFound all only (place + 1) rs) (sym pushed) (with_found all only place arrival reactions within is before found what)

-- behind the last arrival
pub all_found : (all : List Arrived) (only : Option ℕ) (place : ℕ) (reactions : List Reaction) → length all ≤ place → AreFound all only place reactions → AreReactions all only reactions
all_found all only place reactions past found = record {
  places =
      sym (append-nil (map reaction_place reactions))
      ∙ ap (λ (more : List Arrived). map reaction_place reactions ++ wanted_from only place more) (sym (drop_all place all past))
      ∙ found.behind;
  rows = found.rows;
}
