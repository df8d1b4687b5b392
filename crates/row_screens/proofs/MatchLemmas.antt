-- The least match that a number completes, pattern by pattern.
use Rattle.std.proofs.Common.{◌≡◌, ◌∙◌, ℕ, ◌+◌, ◌<◌, List, [], ◌∷◌, ◌++◌, take, drop, get_or, length, map, Bool, true, false, ◌&&◌, cond, Some, None, slice_index, sym, ap, subst}
use Rattle.std.proofs.lemmas.List.{take_more, drop_more, map-append}
use Rattle.std.proofs.lemmas.List.Elements.{filter-append}
use Rattle.std.specs.List.{filter, AllByRecursion}
use Rattle.guard_eval.specs.Meaning.{Assignment, recorded_message}
use Rattle.guard_eval.proofs.ExtendLemmas.{both_true}
use Rattle.pattern_core.specs.Matches.{is_of_kind, is_agreeable}
use Rattle.pattern_core.specs.Choice.{candidate_of, least, lesser_of}
use Rattle.pattern_core.specs.Suits.{SlotsSuit}
use Rattle.pattern_core.proofs.BestLemmas.{least-append}
use Rattle.pattern_core.proofs.SuitsLemmas.{suits_further}
use Rattle.tree_rows.specs.Routes.{with_number}
use Rattle.row_screens.specs.Offers.{Offered, is_free, completes, matches_of}
use Rattle.row_screens.specs.Offering.{CanOffer, MayTake}
use Rattle.row_screens.proofs.SlotsLemmas.{free_is_none, below_apart}

-- what holds of all that are left holds of the first of them, and of the others
pub left_first : {X : Type 0} (P : X → Type 0) (xs : List X) (i : ℕ) (d : X) → i < length xs → AllByRecursion P (drop i xs) → P (get_or xs i d) × AllByRecursion P (drop (i + 1) xs)
left_first {X} P xs i d within h = let All : List X → Type 0 = λ (ys : List X). AllByRecursion P ys in subst All (drop_more xs i d within) h

module _ (o : Offered) (slots : Assignment) where
  abbrev kind : ℕ → Bool
  kind p = is_of_kind (recorded_message o.messages o.number) (slice_index o.definition.patterns p)

  abbrev agrees : ℕ → Bool
  agrees p = is_agreeable o.messages o.definition.conjuncts (with_number slots p o.number)

  -- the longer path suits the messages
  pub suits_with : (p : ℕ) → CanOffer o slots → MayTake o slots p → SlotsSuit o.messages o.definition.patterns (with_number slots p o.number)
  suits_with p can may =
      let parts = both_true (is_free slots p) (kind p && agrees p) may in
      suits_further o.messages o.definition.patterns slots p o.number can.suits (free_is_none slots p parts.0) can.recorded (both_true (kind p) (agrees p) parts.1).0 (below_apart slots o.number can.below)

  pub agrees_with : (p : ℕ) → MayTake o slots p → agrees p ≡ true
  agrees_with p may = (both_true (kind p) (agrees p) (both_true (is_free slots p) (kind p && agrees p) may).1).1

  matches_append : (ps qs : List ℕ) → matches_of o slots (ps ++ qs) ≡ matches_of o slots ps ++ matches_of o slots qs
  matches_append ps qs =
      ap (map (λ (p : ℕ). candidate_of o.rule (with_number slots p o.number))) (filter-append (completes o slots) ps qs)
      ∙ map-append (λ (p : ℕ). candidate_of o.rule (with_number slots p o.number)) (filter (completes o slots) ps) (filter (completes o slots) qs)

  pub matches_more : (ps : List ℕ) (i : ℕ) → i < length ps → least (matches_of o slots (take (i + 1) ps)) ≡ lesser_of (least (matches_of o slots (take i ps))) (least (matches_of o slots (get_or ps i 0 ∷ [])))
  matches_more ps i within =
      ap (λ (qs : List ℕ). least (matches_of o slots qs)) (take_more ps i 0 within)
      ∙ ap least (matches_append (take i ps) (get_or ps i 0 ∷ []))
      ∙ least-append (matches_of o slots (take i ps)) (matches_of o slots (get_or ps i 0 ∷ []))

  -- the match at one pattern
  pub match_yes : (p : ℕ) → completes o slots p ≡ true → Some (candidate_of o.rule (with_number slots p o.number)) ≡ least (matches_of o slots (p ∷ []))
  match_yes p does = λ i. least (map (λ (q : ℕ). candidate_of o.rule (with_number slots q o.number)) (cond (sym does i) (p ∷ []) []))

  pub match_no : (p : ℕ) → completes o slots p ≡ false → None ≡ least (matches_of o slots (p ∷ []))
  match_no p doesnt = λ i. least (map (λ (q : ℕ). candidate_of o.rule (with_number slots q o.number)) (cond (sym doesnt i) (p ∷ []) []))
