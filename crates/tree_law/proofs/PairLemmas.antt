-- Tries are some of the pairs of a path and a pattern of the number's kind.
use Rattle.std.proofs.Common.{◌≡◌, ◌∙◌, ℕ, suc, ◌+◌, ◌*◌, ◌≤◌, List, [], ◌∷◌, ◌++◌, length, slice_get, slice_index, Bool, true, false, not, ◌&&◌, ◌||◌, cond, Option, Some, refl, ap, sym, subst, arith}
use Rattle.std.specs.List.{filter, list_any}
use Rattle.std.proofs.lemmas.List.Sums.{length-filter, sum_by-le}
use Rattle.std.specs.Prelude.{slice_index_or}
use Rattle.join_base.specs.declared.message.Message.{Message}
use Rattle.guard_eval.specs.Meaning.{Assignment, recorded_message, is_slot_filled}
use Rattle.guard_eval.proofs.ExtendLemmas.{both_true}
use Rattle.pattern_core.specs.Matches.{is_of_kind, is_agreeable, partial_matches}
use Rattle.tree_rows.specs.Routes.{with_number}
use Rattle.row_screens.specs.Offers.{Offered, places, is_free}
use Rattle.match_tree.specs.Tries.{is_tried, tried, tries, without_greatest}
use Rattle.tree_law.specs.Laws.{AllTriesAreFew, TriesAreFew, pattern_count}
use Rattle.tree_law.specs.Partials.{messages_more, number_more, offer_more}

-- places of which each that passes has an item that passes are no more than these items
passing_places : (at : ℕ → Bool) (passes : ℕ → Bool) (whole : List ℕ) → ((p : ℕ) → at p ≡ true → passes (slice_index whole p) ≡ true)
    → (from : ℕ) (xs : List ℕ) → ((i : ℕ) → slice_index xs i ≡ slice_index whole (from + i)) → length (filter at (places from xs)) ≤ length (filter passes xs)
passing_places at passes whole each from [] same = omega arith
passing_places at passes whole each from (x ∷ xs) same = by (at from) (passes x) refl refl (passing_places at passes whole each (from + 1) xs later)
  where
    later : (i : ℕ) → slice_index xs i ≡ slice_index whole (from + 1 + i)
    later i = let e : from + suc i ≡ from + 1 + i = omega arith in same (suc i) ∙ ap (slice_index whole) e

    here : x ≡ slice_index whole from
    here = let e : from + 0 ≡ from = omega arith in same 0 ∙ ap (slice_index whole) e

    by : (a b : Bool) → at from ≡ a → passes x ≡ b → length (filter at (places (from + 1) xs)) ≤ length (filter passes xs)
        → length (cond a (from ∷ filter at (places (from + 1) xs)) (filter at (places (from + 1) xs))) ≤ length (cond b (x ∷ filter passes xs) (filter passes xs))
    by true true ea eb l = omega arith
    by true false ea eb l = absurd (let h : false ≡ true = sym eb ∙ ap passes here ∙ each from ea in cc)
    by false true ea eb l = omega arith
    by false false ea eb l = l

module _ (o : Offered) where
  abbrev message : Option Message
  message = recorded_message o.messages o.number

  of_kind : (slots : Assignment) (p : ℕ) → is_tried o slots p ≡ true → is_of_kind message (slice_index o.definition.patterns p) ≡ true
  of_kind slots p h =
      let agrees : Bool = not (list_any is_slot_filled slots) || is_agreeable o.messages o.definition.conjuncts (with_number (without_greatest slots) p o.number) in
      let kind : Bool = is_of_kind message (slice_index o.definition.patterns p) in
      (both_true kind agrees (both_true (is_free slots p) (kind && agrees) h).1).0

  tried_few : (slots : Assignment) → length (tried o slots) ≤ pattern_count message o.definition
  tried_few slots =
      let few = passing_places (is_tried o slots) (is_of_kind message) o.definition.patterns (of_kind slots) 0 o.definition.patterns from_first in
      let counted = length-filter (is_of_kind message) o.definition.patterns in
      omega arith
    where
      from_first : (i : ℕ) → slice_index o.definition.patterns i ≡ slice_index o.definition.patterns (0 + i)
      from_first i = let e : i ≡ 0 + i = omega arith in ap (slice_index o.definition.patterns) e

pub tries_are_few : TriesAreFew
tries_are_few o paths = sum_by-le (λ path. length (tried o path)) (pattern_count (recorded_message o.messages o.number) o.definition) paths (λ k d l. tried_few o (slice_index_or paths k d))

-- the last of the messages
get_last : {X : Type 0} (xs : List X) (x : X) → slice_get (xs ++ x ∷ []) (length xs) ≡ Some x
get_last [] x = refl
get_last (y ∷ xs) x = get_last xs x

last_message : (messages : List Message) (message : Message) → recorded_message (messages_more messages message) (number_more messages) ≡ Some message
last_message messages message = let e : number_more messages ≡ suc (length messages) = omega arith in ap (recorded_message (messages_more messages message)) e ∙ get_last messages message

pub all_tries_are_few : AllTriesAreFew
all_tries_are_few messages message live rule [] = omega arith
all_tries_are_few messages message live rule (d ∷ definitions) =
    let paths = partial_matches messages live d in
    let one = subst (λ (m : Option Message). tries (offer_more messages message d rule) paths ≤ length paths * pattern_count m d) (last_message messages message) (tries_are_few (offer_more messages message d rule) paths) in
    let rest = all_tries_are_few messages message live (rule + 1) definitions in
    omega arith
