-- What a further message makes of the partial matches, and which matches it completes.
use Rattle.std.proofs.Common.{◌≡◌, ◌⊎◌, inl, inr, ◌∙◌, ℕ, zero, suc, ◌+◌, ◌<◌, List, [], ◌∷◌, ◌++◌, map, length, slice_index, Bool, true, false, not, ◌&&◌, cond, Option, Some, None, refl, sym, ap, subst, arith}
use Rattle.std.specs.List.{filter}
use Rattle.std.proofs.Common.{length-append}
use Rattle.std.proofs.lemmas.List.Elements.{filter-append}
use Rattle.std.proofs.lemmas.List.{append-nil}
use Rattle.std.proofs.lemmas.Bool.Decides.{nat_tests}
use Rattle.join_base.specs.declared.message.Message.{Message}
use Rattle.guard_eval.specs.Meaning.{Assignment, recorded_message}
use Rattle.guard_eval.proofs.ExtendLemmas.{both_true}
use Rattle.pattern_core.specs.declared.definition.Definition.{Definition}
use Rattle.pattern_core.specs.declared.candidate.Candidate.{Candidate}
use Rattle.pattern_core.specs.Assigns.{Assigns}
use Rattle.pattern_core.specs.Choice.{candidate_of, least, IsChoice}
use Rattle.pattern_core.specs.Matches.{is_of_kind, is_full, is_agreeable, makes_all_true, is_partial_match, is_complete_match, assignments, partial_among, complete_among, partial_matches, complete_matches}
use Rattle.pattern_core.specs.Members.{IsIn}
use Rattle.pattern_core.specs.Suits.{IsRecorded}
use Rattle.pattern_core.specs.Window.{SeesLatest, is_seen, oldest_seen, seen_of}
use Rattle.pattern_core.proofs.AgreeLemmas.{agreeable_from_true}
use Rattle.pattern_core.proofs.AssignsLemmas.{IsIn-assignments, Assigns-from_IsIn}
use Rattle.pattern_core.proofs.ChoiceLemmas.{least-IsChoice, least_from_IsChoice}
use Rattle.pattern_core.proofs.MembersLemmas.{IsIn-append_left, IsIn-append_right, IsIn-append_cases, IsIn-map, IsIn-map_from, IsIn-filter, IsIn-filter_from, IsIn-flat_map, IsIn-flat_map_from}
use Rattle.pattern_core.proofs.SeenLemmas.{seen_from_oldest}
use Rattle.tree_rows.specs.Routes.{with_number}
use Rattle.join_base.specs.Taken.{contains_number}
use Rattle.row_screens.specs.Offers.{Offered, places, is_free, may_take, takers, growing, completes, leaves_one_free, matches_at}
use Rattle.match_tree.specs.Tree.{SameMembers, is_slot_seen, is_path_seen, is_slot_without, is_path_without, seen_paths, extensions, completions}
use Rattle.row_screens.proofs.SlotsLemmas.{agreeable_below, extends_one}
use Rattle.tree_law.specs.Partials.{ArePartial, NoneWaits, AreLive, messages_more, number_more, live_more, offer_more, left_of}
use Rattle.tree_law.proofs.EvalLemmas.{recorded_message-more, message_of_slot-more, AreRecorded, agreeable-same, all_true-same}
use Rattle.tree_law.proofs.AssignLemmas.{both_of, free_not_full, Assigns-mono, Assigns-recorded, Assigns-same, Assigns-apart, passing, passed, Takes, split, Assigns-further}

not_true : (b : Bool) → b ≡ false → not b ≡ true
not_true b e = ap not e

from_not : (b : Bool) → not b ≡ true → b ≡ false
from_not true e = sym e
from_not false e = refl

in_places : {X : Type 0} (from : ℕ) (xs : List X) (p q : ℕ) → q ≡ from + p → p < length xs → IsIn q (places from xs)
in_places from [] p q e l = absurd (omega arith)
in_places from (x ∷ xs) zero q e l = inl (omega arith)
in_places from (x ∷ xs) (suc p) q e l = inr (in_places (from + 1) xs p q (omega arith) (omega arith))

-- ---- what is seen

sees_next : (window : Option ℕ) (recorded : ℕ) → SeesLatest window → is_seen window recorded recorded ≡ true
sees_next None recorded h = refl
sees_next (Some w) recorded h = grind (arith, nat_tests)

seen_before : (window : Option ℕ) (recorded number : ℕ) → is_seen window (recorded + 1) number ≡ true → is_seen window recorded number ≡ true
seen_before None recorded number h = refl
seen_before (Some w) recorded number h = grind (arith, nat_tests)

-- ---- the least of the same candidates

pub least-same : (xs ys : List Candidate) → SameMembers xs ys → least xs ≡ least ys
least-same xs ys same = least_from_IsChoice ys (least xs) (over (least xs) (least-IsChoice xs))
  where
    over : (o : Option Candidate) → IsChoice xs o → IsChoice ys o
    over None h = λ c m. h c (same.back c m)
    over (Some c) h = record { member = same.to c h.member; none_smaller = λ other m. h.none_smaller other (same.back other m) }

-- where there is no least one there is none
pub none_of : (cs : List Candidate) → least cs ≡ None → (c : Candidate) → ¬ IsIn c cs
none_of cs e = by (least cs) (least-IsChoice cs) e
  where
    by : (o : Option Candidate) → IsChoice cs o → o ≡ None → (c : Candidate) → ¬ IsIn c cs
    by None h e = h
    by (Some c) h e = absurd cc

module _ (messages : List Message) (message : Message) (live : List ℕ) (d : Definition) (are_live : AreLive messages live) (sees : SeesLatest d.window) where
  abbrev more : List Message
  more = messages_more messages message

  abbrev next : ℕ
  next = number_more messages

  -- the numbers that were seen, and those of them that still are
  abbrev was : List ℕ
  was = seen_of d (length messages) live

  abbrev still : List ℕ
  still = seen_of d next live

  abbrev oldest : ℕ
  oldest = oldest_seen d.window next

  count : length more ≡ next
  count = length-append messages (message ∷ [])

  pub seen_more : seen_of d (length more) (live_more messages live) ≡ still ++ next ∷ []
  seen_more =
      ap (λ (r : ℕ). seen_of d r (live_more messages live)) count
      ∙ filter-append (is_seen d.window next) live (next ∷ [])
      ∙ ap (λ (b : Bool). still ++ cond b (next ∷ []) []) (sees_next d.window next sees)

  still_was : (k : ℕ) → IsIn k still → IsIn k was
  still_was k m =
      let at = IsIn-filter_from (is_seen d.window next) k live m in
      IsIn-filter (is_seen d.window (length messages)) k live (seen_before d.window (length messages) k at.1) at.0

  was_live : (k : ℕ) → IsIn k was → IsRecorded messages k
  was_live k m = are_live k (IsIn-filter_from (is_seen d.window (length messages)) k live m).0

  still_live : (k : ℕ) → IsIn k still → IsRecorded messages k
  still_live k m = was_live k (still_was k m)

  next_not_still : IsIn next still → ⊥
  next_not_still m = let h = (still_live next m).1 in omega arith

  same_at : (k : ℕ) → IsIn k still → recorded_message messages k ≡ recorded_message more k
  same_at k m = sym (recorded_message-more messages (message ∷ []) k (still_live k m))

  -- assignments of the numbers that are still seen
  to_still : (x : Assignment) → Assigns messages was d.patterns x → is_path_seen oldest x ≡ true → Assigns more still d.patterns x
  to_still x h pass =
      Assigns-same messages more still same_at d.patterns x
      (Assigns-mono messages (filter (is_seen d.window next) was) still
      (λ k m. let at = IsIn-filter_from (is_seen d.window next) k was m in IsIn-filter (is_seen d.window next) k live at.1 (IsIn-filter_from (is_seen d.window (length messages)) k live at.0).0) d.patterns x
      (passed messages (is_seen d.window next) (is_slot_seen oldest) refl was (λ k m. sym (seen_from_oldest d.window next k (was_live k m).0)) d.patterns x h pass))

  from_still : (x : Assignment) → Assigns more still d.patterns x → Assigns messages was d.patterns x × (is_path_seen oldest x ≡ true)
  from_still x h =
      let before = Assigns-same more messages still (λ k m. sym (same_at k m)) d.patterns x h in (
        Assigns-mono messages still was still_was d.patterns x before,
        passing messages (is_seen d.window next) (is_slot_seen oldest) refl live (λ k m. sym (seen_from_oldest d.window next k (are_live k m).0)) d.patterns x before,
      )

  recorded_still : (x : Assignment) → Assigns more still d.patterns x → AreRecorded messages x
  recorded_still x h = Assigns-recorded messages still still_live d.patterns x (Assigns-same more messages still (λ k m. sym (same_at k m)) d.patterns x h)

  agrees_too : (x : Assignment) → Assigns more still d.patterns x → is_agreeable more d.conjuncts x ≡ is_agreeable messages d.conjuncts x
  agrees_too x h = agreeable-same messages more x (λ p. message_of_slot-more messages (message ∷ []) x p (recorded_still x h)) d.conjuncts

  true_too : (x : Assignment) → Assigns more still d.patterns x → makes_all_true more d.conjuncts x ≡ makes_all_true messages d.conjuncts x
  true_too x h = all_true-same messages more x (λ p. message_of_slot-more messages (message ∷ []) x p (recorded_still x h)) d.conjuncts

  -- a partial match of earlier numbers, all of which are seen
  pub record IsOld (x : Assignment) : Type 0 where
    pub assigns : Assigns more still d.patterns x
    pub open_ : is_full x ≡ false
    pub agrees : is_agreeable more d.conjuncts x ≡ true

  module _ (rule : ℕ) (paths : List Assignment) (hold : ArePartial messages live d paths) where
    abbrev o : Offered
    o = offer_more messages message d rule

    abbrev seen_now : List Assignment
    seen_now = seen_paths o paths

    pub old_from : (x : Assignment) → IsIn x seen_now → IsOld x
    old_from x m =
        let at = IsIn-filter_from (is_path_seen oldest) x paths m in
        let partial = IsIn-filter_from (is_partial_match messages d) x (assignments messages was d.patterns) (hold.to x at.0) in
        let parts = both_true (not (is_full x)) (is_agreeable messages d.conjuncts x) partial.1 in
        let now = to_still x (Assigns-from_IsIn messages was d.patterns x partial.0) at.1 in
        record { assigns = now; open_ = from_not (is_full x) parts.0; agrees = agrees_too x now ∙ parts.1 }

    pub old_to : (x : Assignment) → IsOld x → IsIn x seen_now
    old_to x h =
        let before = from_still x h.assigns in
        IsIn-filter (is_path_seen oldest) x paths before.1
        (hold.back x (IsIn-filter (is_partial_match messages d) x (assignments messages was d.patterns)
        (both_of (not (is_full x)) (is_agreeable messages d.conjuncts x) (not_true (is_full x) h.open_) (sym (agrees_too x h.assigns) ∙ h.agrees))
        (IsIn-assignments messages was d.patterns x before.0)))

    -- the front of a match that has the new number is a path
    front_is_old : (x : Assignment) (t : Takes more still next d.patterns x) → is_agreeable more d.conjuncts x ≡ true → IsOld t.front
    front_is_old x t agrees = record {
      assigns = t.assigns;
      open_ = free_not_full t.front t.pattern t.free;
      agrees = agreeable_below more t.front (with_number t.front t.pattern next) (extends_one t.front t.pattern next t.free) d.conjuncts (subst (λ (s : Assignment). is_agreeable more d.conjuncts s ≡ true) (sym t.is) agrees);
    }

    -- and its pattern may take the number there
    front_takes : (x : Assignment) (t : Takes more still next d.patterns x) → is_agreeable more d.conjuncts x ≡ true → IsIn t.pattern (takers o t.front)
    front_takes x t agrees =
        IsIn-filter (may_take o t.front) t.pattern (places 0 d.patterns)
        (both_of (is_free t.front t.pattern) (is_of_kind (recorded_message more next) (slice_index d.patterns t.pattern) && is_agreeable more d.conjuncts (with_number t.front t.pattern next)) t.free
        (both_of (is_of_kind (recorded_message more next) (slice_index d.patterns t.pattern)) (is_agreeable more d.conjuncts (with_number t.front t.pattern next)) t.of_kind
        (subst (λ (s : Assignment). is_agreeable more d.conjuncts s ≡ true) (sym t.is) agrees)))
        (in_places 0 d.patterns t.pattern t.pattern (omega arith) t.within)

    -- what a path becomes where a pattern takes the number
    longer_assigns : (x : Assignment) (p : ℕ) → IsOld x → may_take o x p ≡ true → Assigns more (still ++ next ∷ []) d.patterns (with_number x p next) × (is_agreeable more d.conjuncts (with_number x p next) ≡ true)
    longer_assigns x p old may =
        let parts = both_true (is_free x p) (is_of_kind (recorded_message more next) (slice_index d.patterns p) && is_agreeable more d.conjuncts (with_number x p next)) may in
        let later = both_true (is_of_kind (recorded_message more next) (slice_index d.patterns p)) (is_agreeable more d.conjuncts (with_number x p next)) parts.1 in
        (Assigns-further more still next d.patterns x p old.assigns parts.0 later.0 (Assigns-apart more still next next_not_still d.patterns x old.assigns), later.1)

    abbrev Now : Assignment → Type 0
    Now x = IsIn x (partial_matches more (live_more messages live) d)

    partial_now : (x : Assignment) → Assigns more (still ++ next ∷ []) d.patterns x → is_full x ≡ false → is_agreeable more d.conjuncts x ≡ true → Now x
    partial_now x assigns open_ agrees =
        subst (λ (ns : List ℕ). IsIn x (partial_among more ns d)) (sym seen_more)
        (IsIn-filter (is_partial_match more d) x (assignments more (still ++ next ∷ []) d.patterns)
        (both_of (not (is_full x)) (is_agreeable more d.conjuncts x) (not_true (is_full x) open_) agrees)
        (IsIn-assignments more (still ++ next ∷ []) d.patterns x assigns))

    grown_to : (x : Assignment) → IsIn x seen_now ⊎ IsIn x (extensions o seen_now) → Now x
    grown_to x (inl m) =
        let old = old_from x m in
        partial_now x (Assigns-mono more still (still ++ next ∷ []) (λ k h. IsIn-append_left k still (next ∷ []) h) d.patterns x old.assigns) old.open_ old.agrees
    grown_to x (inr m) =
        let from = IsIn-flat_map_from (λ (path : Assignment). map (λ (p : ℕ). with_number path p next) (growing o path)) x seen_now m in
        let at = IsIn-map_from (λ (p : ℕ). with_number from.0 p next) x (growing o from.0) from.2 in
        let grows = IsIn-filter_from (leaves_one_free o from.0) at.0 (takers o from.0) at.1 in
        let may = (IsIn-filter_from (may_take o from.0) at.0 (places 0 d.patterns) grows.0).1 in
        let longer = longer_assigns from.0 at.0 (old_from from.0 from.1) may in
        subst Now at.2 (partial_now (with_number from.0 at.0 next) longer.0 (from_not (is_full (with_number from.0 at.0 next)) grows.1) longer.1)

    grown_by : (x : Assignment) → is_full x ≡ false → is_agreeable more d.conjuncts x ≡ true → Assigns more still d.patterns x ⊎ Takes more still next d.patterns x → IsIn x seen_now ⊎ IsIn x (extensions o seen_now)
    grown_by x open_ agrees (inl a) = inl (old_to x (record { assigns = a; open_ = open_; agrees = agrees }))
    grown_by x open_ agrees (inr t) =
        inr (IsIn-flat_map (λ (path : Assignment). map (λ (p : ℕ). with_number path p next) (growing o path)) t.front x seen_now (old_to t.front (front_is_old x t agrees))
        (subst (λ (s : Assignment). IsIn s (map (λ (p : ℕ). with_number t.front p next) (growing o t.front))) t.is
        (IsIn-map (λ (p : ℕ). with_number t.front p next) t.pattern (growing o t.front)
        (IsIn-filter (leaves_one_free o t.front) t.pattern (takers o t.front)
        (not_true (is_full (with_number t.front t.pattern next)) (subst (λ (s : Assignment). is_full s ≡ false) (sym t.is) open_))
        (front_takes x t agrees)))))

    grown_back : (x : Assignment) → Now x → IsIn x seen_now ⊎ IsIn x (extensions o seen_now)
    grown_back x m =
        let now = IsIn-filter_from (is_partial_match more d) x (assignments more (still ++ next ∷ []) d.patterns) (subst (λ (ns : List ℕ). IsIn x (partial_among more ns d)) seen_more m) in
        let parts = both_true (not (is_full x)) (is_agreeable more d.conjuncts x) now.1 in
        grown_by x (from_not (is_full x) parts.0) parts.1 (split more still next d.patterns x (Assigns-from_IsIn more (still ++ next ∷ []) d.patterns x now.0))

    -- the paths that are still seen, and their extensions, are the partial matches with the new message
    pub grown : ArePartial more (live_more messages live) d (seen_now ++ extensions o seen_now)
    grown = record {
      to = λ x m. grown_to x (IsIn-append_cases x seen_now (extensions o seen_now) m);
      back = λ x m. elim (grown_back x m) [ inl l ↦ IsIn-append_left x seen_now (extensions o seen_now) l | inr r ↦ IsIn-append_right x seen_now (extensions o seen_now) r ];
    }

    -- ---- complete matches

    abbrev Complete : Assignment → Type 0
    Complete x = IsIn x (complete_matches more (live_more messages live) d)

    complete_now : (x : Assignment) → Assigns more (still ++ next ∷ []) d.patterns x → is_complete_match more d x ≡ true → Complete x
    complete_now x assigns complete =
        subst (λ (ns : List ℕ). IsIn x (complete_among more ns d)) (sym seen_more)
        (IsIn-filter (is_complete_match more d) x (assignments more (still ++ next ∷ []) d.patterns) complete
        (IsIn-assignments more (still ++ next ∷ []) d.patterns x assigns))

    complete_from : (x : Assignment) → Complete x → Assigns more (still ++ next ∷ []) d.patterns x × (is_complete_match more d x ≡ true)
    complete_from x m =
        let now = IsIn-filter_from (is_complete_match more d) x (assignments more (still ++ next ∷ []) d.patterns) (subst (λ (ns : List ℕ). IsIn x (complete_among more ns d)) seen_more m) in
        (Assigns-from_IsIn more (still ++ next ∷ []) d.patterns x now.0, now.1)

    abbrev candidates : List Candidate
    candidates = map (candidate_of rule) (complete_matches more (live_more messages live) d)

    completed_to : (c : Candidate) → IsIn c (completions o seen_now) → IsIn c candidates
    completed_to c m =
        let from = IsIn-flat_map_from (matches_at o) c seen_now m in
        let at = IsIn-map_from (λ (p : ℕ). candidate_of rule (with_number from.0 p next)) c (filter (completes o from.0) (takers o from.0)) from.2 in
        let taker = IsIn-filter_from (completes o from.0) at.0 (takers o from.0) at.1 in
        let may = (IsIn-filter_from (may_take o from.0) at.0 (places 0 d.patterns) taker.0).1 in
        let longer = longer_assigns from.0 at.0 (old_from from.0 from.1) may in
        subst (λ (x : Candidate). IsIn x candidates) at.2
        (IsIn-map (candidate_of rule) (with_number from.0 at.0 next) (complete_matches more (live_more messages live) d) (complete_now (with_number from.0 at.0 next) longer.0 taker.1))

    module _ (none : NoneWaits messages live d) where
      -- no complete match is made of earlier numbers alone
      old_incomplete : (x : Assignment) → Assigns more still d.patterns x → is_complete_match more d x ≡ true → ⊥
      old_incomplete x a complete =
          let parts = both_true (is_full x) (makes_all_true more d.conjuncts x) complete in
          none x
          (IsIn-filter (is_complete_match messages d) x (assignments messages was d.patterns)
          (both_of (is_full x) (makes_all_true messages d.conjuncts x) parts.0 (sym (true_too x a) ∙ parts.1))
          (IsIn-assignments messages was d.patterns x (from_still x a).0))

      completed_by : (x : Assignment) → is_complete_match more d x ≡ true → Assigns more still d.patterns x ⊎ Takes more still next d.patterns x → IsIn (candidate_of rule x) (completions o seen_now)
      completed_by x complete (inl a) = absurd (old_incomplete x a complete)
      completed_by x complete (inr t) =
          let holds = (both_true (is_full x) (makes_all_true more d.conjuncts x) complete).1 in
          let agrees = agreeable_from_true more x x (λ p h. refl) d.conjuncts holds in
          IsIn-flat_map (matches_at o) t.front (candidate_of rule x) seen_now (old_to t.front (front_is_old x t agrees))
          (subst (λ (s : Assignment). IsIn (candidate_of rule s) (matches_at o t.front)) t.is
          (IsIn-map (λ (p : ℕ). candidate_of rule (with_number t.front p next)) t.pattern (filter (completes o t.front) (takers o t.front))
          (IsIn-filter (completes o t.front) t.pattern (takers o t.front) (subst (λ (s : Assignment). is_complete_match more d s ≡ true) (sym t.is) complete) (front_takes x t agrees))))

      completed_back : (c : Candidate) → IsIn c candidates → IsIn c (completions o seen_now)
      completed_back c m =
          let at = IsIn-map_from (candidate_of rule) c (complete_matches more (live_more messages live) d) m in
          let now = complete_from at.0 at.1 in
          subst (λ (x : Candidate). IsIn x (completions o seen_now)) at.2 (completed_by at.0 now.1 (split more still next d.patterns at.0 now.0))

      -- the matches that the number completes are the complete matches with the new message
      pub completed : least (completions o seen_now) ≡ least candidates
      completed = least-same (completions o seen_now) candidates (record { to = completed_to; back = completed_back })

      -- where the number completes none, none waits
      pub none_waits : least (completions o seen_now) ≡ None → NoneWaits more (live_more messages live) d
      none_waits e x m = none_of candidates (sym completed ∙ e) (candidate_of rule x) (IsIn-map (candidate_of rule) x (complete_matches more (live_more messages live) d) m)

    -- ---- a firing takes the new number

    module _ (taken : List ℕ) (takes : contains_number taken next ≡ true) where
      abbrev stays : ℕ → Bool
      stays k = not (contains_number taken k)

      left_more : seen_of d (length more) (left_of (live_more messages live) taken) ≡ filter (is_seen d.window next) (filter stays live)
      left_more =
          ap (λ (r : ℕ). seen_of d r (left_of (live_more messages live) taken)) count
          ∙ ap (filter (is_seen d.window next)) (filter-append stays live (next ∷ []) ∙ ap (λ (b : Bool). filter stays live ++ cond (not b) (next ∷ []) []) takes ∙ append-nil (filter stays live))

      left_still : (k : ℕ) → IsIn k (filter (is_seen d.window next) (filter stays live)) → IsIn k (filter stays still)
      left_still k m =
          let at = IsIn-filter_from (is_seen d.window next) k (filter stays live) m in
          let from = IsIn-filter_from stays k live at.0 in
          IsIn-filter stays k still from.1 (IsIn-filter (is_seen d.window next) k live at.1 from.0)

      still_left : (k : ℕ) → IsIn k (filter stays still) → IsIn k (filter (is_seen d.window next) (filter stays live))
      still_left k m =
          let at = IsIn-filter_from stays k still m in
          let from = IsIn-filter_from (is_seen d.window next) k live at.0 in
          IsIn-filter (is_seen d.window next) k (filter stays live) from.1 (IsIn-filter stays k live at.1 from.0)

      left_assigns : (x : Assignment) → Assigns more (filter (is_seen d.window next) (filter stays live)) d.patterns x → Assigns more still d.patterns x × (is_path_without taken x ≡ true)
      left_assigns x h =
          let within = Assigns-mono more (filter (is_seen d.window next) (filter stays live)) (filter stays still) left_still d.patterns x h in (
            Assigns-mono more (filter stays still) still (λ k m. (IsIn-filter_from stays k still m).0) d.patterns x within,
            passing more stays (is_slot_without taken) refl still (λ k m. refl) d.patterns x within,
          )

      assigns_left : (x : Assignment) → Assigns more still d.patterns x → is_path_without taken x ≡ true → Assigns more (filter (is_seen d.window next) (filter stays live)) d.patterns x
      assigns_left x h pass =
          Assigns-mono more (filter stays still) (filter (is_seen d.window next) (filter stays live)) still_left d.patterns x
          (passed more stays (is_slot_without taken) refl still (λ k m. refl) d.patterns x h pass)

      abbrev left_paths : List Assignment
      left_paths = filter (is_path_without taken) seen_now

      abbrev Left : Assignment → Type 0
      Left x = IsIn x (partial_matches more (left_of (live_more messages live) taken) d)

      pruned_to : (x : Assignment) → IsIn x left_paths → Left x
      pruned_to x m =
          let at = IsIn-filter_from (is_path_without taken) x seen_now m in
          let old = old_from x at.0 in
          let left : List ℕ = filter (is_seen d.window next) (filter stays live) in
          subst (λ (ns : List ℕ). IsIn x (partial_among more ns d)) (sym left_more)
          (IsIn-filter (is_partial_match more d) x (assignments more left d.patterns)
          (both_of (not (is_full x)) (is_agreeable more d.conjuncts x) (not_true (is_full x) old.open_) old.agrees)
          (IsIn-assignments more left d.patterns x (assigns_left x old.assigns at.1)))

      pruned_back : (x : Assignment) → Left x → IsIn x left_paths
      pruned_back x m =
          let left : List ℕ = filter (is_seen d.window next) (filter stays live) in
          let now = IsIn-filter_from (is_partial_match more d) x (assignments more left d.patterns) (subst (λ (ns : List ℕ). IsIn x (partial_among more ns d)) left_more m) in
          let parts = both_true (not (is_full x)) (is_agreeable more d.conjuncts x) now.1 in
          let a = left_assigns x (Assigns-from_IsIn more left d.patterns x now.0) in
          IsIn-filter (is_path_without taken) x seen_now a.1 (old_to x (record { assigns = a.0; open_ = from_not (is_full x) parts.0; agrees = parts.1 }))

      -- the paths that are still seen and have none of the taken numbers are the partial matches of what is left
      pub pruned : ArePartial more (left_of (live_more messages live) taken) d left_paths
      pruned = record { to = pruned_to; back = pruned_back }

      -- and of what is left no complete match waits
      pub none_left : NoneWaits messages live d → NoneWaits more (left_of (live_more messages live) taken) d
      none_left none x m =
          let left : List ℕ = filter (is_seen d.window next) (filter stays live) in
          let now = IsIn-filter_from (is_complete_match more d) x (assignments more left d.patterns) (subst (λ (ns : List ℕ). IsIn x (complete_among more ns d)) left_more m) in
          old_incomplete none x (left_assigns x (Assigns-from_IsIn more left d.patterns x now.0)).0 now.1
