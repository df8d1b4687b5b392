-- The trees of an actor in one step: their best match is the choice, and afterwards they hold again.
use Rattle.std.proofs.Common.{◌≡◌, ◌⊎◌, inl, inr, ◌∙◌, ℕ, zero, suc, ◌+◌, ◌≤◌, List, [], ◌∷◌, ◌++◌, map, length, replicate, Bool, true, false, not, ◌&&◌, ◌||◌, Option, Some, None, refl, sym, ap, subst, arith}
use Rattle.std.specs.Prelude.{if◌then◌else◌, ◌==◌}
use Rattle.std.specs.Ordering.{is_le}
use Rattle.std.specs.List.{filter, flat_map}
use Rattle.std.proofs.lemmas.Bool.Decides.{nat_tests}
use Rattle.std.proofs.Math.Bool.{or-true}
use Rattle.join_base.specs.declared.message.Message.{Message}
use Rattle.guard_eval.specs.Meaning.{Assignment}
use Rattle.guard_eval.proofs.ExtendLemmas.{both_true}
use Rattle.pattern_core.specs.declared.definition.Definition.{Definition}
use Rattle.pattern_core.specs.declared.candidate.Candidate.{Candidate}
use Rattle.pattern_core.specs.Key.{key_cmp}
use Rattle.pattern_core.specs.Choice.{candidate_of, taken_of, least, lesser_of, matches_from, choice, IsChoice}
use Rattle.pattern_core.specs.Matches.{is_full, makes_all_true, is_partial_match, is_complete_match, assignments, with_pattern, partial_matches, complete_matches}
use Rattle.pattern_core.specs.Members.{IsIn}
use Rattle.pattern_core.specs.Window.{SeesLatest}
use Rattle.pattern_core.proofs.AgreeLemmas.{agreeable_empty}
use Rattle.pattern_core.proofs.BestLemmas.{least-append}
use Rattle.pattern_core.proofs.ChoiceLemmas.{least-IsChoice}
use Rattle.pattern_core.proofs.MembersLemmas.{IsIn-append_left, IsIn-append_right, IsIn-append_cases, IsIn-map_from, IsIn-filter_from, IsIn-flat_map_from}
use Rattle.tree_rows.specs.Routes.{with_number}
use Rattle.join_base.specs.Taken.{contains_number}
use Rattle.row_screens.specs.Offers.{Offered, is_free, may_take, takers, completes, matches_at, places}
use Rattle.match_tree.specs.Tree.{Tree, Reserve, SameMembers, IsReserved, seen_paths, extensions, completions, empty_of}
use Rattle.tree_law.specs.Partials.{ArePartial, NoneWaits, AreLive, messages_more, number_more, live_more, offer_more, left_of}
use Rattle.tree_law.specs.Trees.{Holds, HoldAll, AreTreesOf, IsReservedFor, AreReservedFor, reserve_best, best_of, KeepsSeenPaths, fired_tree, cleared_tree}
use Rattle.tree_law.proofs.GrowthLemmas.{grown, completed, none_waits, pruned, none_left}

pub same_trans : {X : Type 0} (xs ys zs : List X) → SameMembers xs ys → SameMembers ys zs → SameMembers xs zs
same_trans xs ys zs a b = record { to = λ x m. b.to x (a.to x m); back = λ x m. a.back x (b.back x m) }

same_behind : {X : Type 0} (xs ys zs : List X) → SameMembers ys zs → SameMembers (xs ++ ys) (xs ++ zs)
same_behind xs ys zs s = record {
  to = λ x m. elim (IsIn-append_cases x xs ys m) [ inl l ↦ IsIn-append_left x xs zs l | inr r ↦ IsIn-append_right x xs zs (s.to x r) ];
  back = λ x m. elim (IsIn-append_cases x xs zs m) [ inl l ↦ IsIn-append_left x xs ys l | inr r ↦ IsIn-append_right x xs ys (s.back x r) ];
}

-- ---- the empty path alone

alone : (messages : List Message) (kinds : List ℕ) → assignments messages [] kinds ≡ replicate (length kinds) None ∷ []
alone messages [] = refl
alone messages (kind ∷ kinds) = ap (flat_map (with_pattern messages [] kind)) (alone messages kinds)

empty_open : (n : ℕ) → 1 ≤ n → is_full (replicate n None) ≡ false
empty_open zero l = absurd (omega arith)
empty_open (suc n) l = refl

module _ (messages : List Message) (d : Definition) (some : 1 ≤ length d.patterns) where
  empty_partial : is_partial_match messages d (empty_of d) ≡ true
  empty_partial = λ i. not (empty_open (length d.patterns) some i) && agreeable_empty messages d.conjuncts (length d.patterns) i

  empty_incomplete : is_complete_match messages d (empty_of d) ≡ false
  empty_incomplete = λ i. empty_open (length d.patterns) some i && makes_all_true messages d.conjuncts (empty_of d)

-- ---- which of two is the lesser

lesser_cases : (a b : Option Candidate) (c : Candidate) → lesser_of a b ≡ Some c → (a ≡ Some c) ⊎ (b ≡ Some c)
lesser_cases None b c e = inr e
lesser_cases (Some x) None c e = inl e
lesser_cases (Some x) (Some y) c e = by (is_le (key_cmp x y)) e
  where
    by : (t : Bool) → (if t then Some x else Some y) ≡ Some c → (Some x ≡ Some c) ⊎ (Some y ≡ Some c)
    by true e = inl e
    by false e = inr e

pub none_first : (a b : Option Candidate) → lesser_of a b ≡ None → (a ≡ None) × (b ≡ None)
none_first None b e = (refl, e)
none_first (Some x) None e = absurd cc
none_first (Some x) (Some y) e = by (is_le (key_cmp x y)) e
  where
    by : (t : Bool) → (if t then Some x else Some y) ≡ None → (Some x ≡ None) × (Some y ≡ None)
    by true e = absurd cc
    by false e = absurd cc

-- a number that a free pattern takes is taken
itself : (n : ℕ) → (n == n) ≡ true
itself n = grind (arith, nat_tests)

taken_with : (slots : Assignment) (p n : ℕ) → is_free slots p ≡ true → contains_number (taken_of (with_number slots p n)) n ≡ true
taken_with [] p n free = absurd cc
taken_with (None ∷ slots) zero n free = λ i. itself n i || contains_number (taken_of slots) n
taken_with (Some k ∷ slots) zero n free = absurd cc
taken_with (None ∷ slots) (suc p) n free = taken_with slots p n free
taken_with (Some k ∷ slots) (suc p) n free = ap (λ (b : Bool). (n == k) || b) (taken_with slots p n free) ∙ or-true (n == k)

-- each match that a number completes takes it
completion_takes : (o : Offered) (paths : List Assignment) (c : Candidate) → IsIn c (completions o paths) → contains_number c.taken o.number ≡ true
completion_takes o paths c m =
    let from = IsIn-flat_map_from (matches_at o) c paths m in
    let at = IsIn-map_from (λ (p : ℕ). candidate_of o.rule (with_number from.0 p o.number)) c (filter (completes o from.0) (takers o from.0)) from.2 in
    let taker = IsIn-filter_from (completes o from.0) at.0 (takers o from.0) at.1 in
    let may = (IsIn-filter_from (may_take o from.0) at.0 (places 0 o.definition.patterns) taker.0).1 in
    subst (λ (x : Candidate). contains_number x.taken o.number ≡ true) at.2 (taken_with from.0 at.0 o.number (both_true (is_free from.0 at.0) _ may).0)

least_member : (cs : List Candidate) (c : Candidate) → least cs ≡ Some c → IsIn c cs
least_member cs c e = by (least cs) (least-IsChoice cs) e
  where
    by : (o : Option Candidate) → IsChoice cs o → o ≡ Some c → IsIn c cs
    by None h e = absurd cc
    by (Some d) h e = let same : d ≡ c = cc in subst (λ (x : Candidate). IsIn x cs) same h.member

module _ (messages : List Message) (message : Message) where
  abbrev offer_of : Tree → Offered
  offer_of tree = offer_more messages message tree.definition tree.rule

  abbrev found : Tree → List Candidate
  found tree = completions (offer_of tree) (seen_paths (offer_of tree) tree.paths)

  -- what a reserve tells
  reserved_best : (tree : Tree) (r : Option Reserve) → IsReserved (offer_of tree) tree.paths r → reserve_best r ≡ least (found tree)
  reserved_best tree None h = absurd h
  reserved_best tree (Some r) h = h.1

  reserved_aside : (tree : Tree) (o : Option Reserve) (r : Reserve) → IsReserved (offer_of tree) tree.paths o → o ≡ Some r → reserve_best o ≡ None → SameMembers r.aside (extensions (offer_of tree) (seen_paths (offer_of tree) tree.paths))
  reserved_aside tree None r h e none = absurd h
  reserved_aside tree (Some x) r h e none = let same : x ≡ r = cc in subst (λ (y : Reserve). SameMembers y.aside (extensions (offer_of tree) (seen_paths (offer_of tree) tree.paths))) same (h.2 none)

  -- the match that is chosen takes the new number
  pub best_takes : (trees : List Tree) (c : Candidate) → AreReservedFor messages message trees → best_of trees ≡ Some c → contains_number c.taken (number_more messages) ≡ true
  best_takes [] c h e = absurd cc
  best_takes (tree ∷ trees) c h e =
      elim (lesser_cases (reserve_best tree.reserve) (best_of trees) c e) [
        | inl l ↦ completion_takes (offer_of tree) (seen_paths (offer_of tree) tree.paths) c (least_member (found tree) c (sym (reserved_best tree tree.reserve h.0) ∙ l))
        | inr r ↦ best_takes trees c h.1 r
      ]

  module _ (live : List ℕ) (are_live : AreLive messages live) where
    -- the best of the trees is the least of all complete matches
    pub best_is_least : (rule : ℕ) (definitions : List Definition) (trees : List Tree) → AreTreesOf rule definitions trees → HoldAll messages live trees → AreReservedFor messages message trees
        → best_of trees ≡ least (matches_from (messages_more messages message) (live_more messages live) rule definitions)
    best_is_least rule [] [] are hold reserved = refl
    best_is_least rule [] (tree ∷ trees) are hold reserved = absurd are
    best_is_least rule (d ∷ definitions) [] are hold reserved = absurd are
    best_is_least rule (d ∷ definitions) (tree ∷ trees) are hold reserved =
        let h = hold.0 in
        let here = reserved_best tree tree.reserve reserved.0 ∙ completed messages message live tree.definition are_live h.sees tree.rule tree.paths h.partial h.none in
        let later = best_is_least (rule + 1) definitions trees are.2 hold.1 reserved.1 in
        let first : List Candidate = map (candidate_of tree.rule) (complete_matches (messages_more messages message) (live_more messages live) tree.definition) in
        (λ i. lesser_of (here i) (later i))
        ∙ sym (least-append first (matches_from (messages_more messages message) (live_more messages live) (rule + 1) definitions))
        ∙ (λ i. least (map (candidate_of (are.1 i)) (complete_matches (messages_more messages message) (live_more messages live) (are.0 i)) ++ matches_from (messages_more messages message) (live_more messages live) (rule + 1) definitions))

    -- and so it is the choice
    pub best_is_choice : (definitions : List Definition) (trees : List Tree) → AreTreesOf 1 definitions trees → HoldAll messages live trees → AreReservedFor messages message trees
        → best_of trees ≡ choice (messages_more messages message) (live_more messages live) definitions
    best_is_choice definitions trees are hold reserved = best_is_least 1 definitions trees are hold reserved

    -- a tree that keeps the message holds again
    pub kept_holds : (before after : Tree) → Holds messages live before → IsReservedFor messages message before → reserve_best before.reserve ≡ None → KeepsSeenPaths messages message before after
        → Holds (messages_more messages message) (live_more messages live) after
    kept_holds before after h reserved none kept =
        let seen : List Assignment = seen_paths (offer_of before) before.paths in
        let aside = reserved_aside before before.reserve kept.reserve reserved kept.had none in
        let all = same_trans after.paths (seen ++ kept.reserve.aside) (seen ++ extensions (offer_of before) seen) kept.paths (same_behind seen kept.reserve.aside (extensions (offer_of before) seen) aside) in
        let paths = same_trans after.paths (seen ++ extensions (offer_of before) seen) (partial_matches (messages_more messages message) (live_more messages live) before.definition) all
        (grown messages message live before.definition are_live h.sees before.rule before.paths h.partial) in
        let waits = none_waits messages message live before.definition are_live h.sees before.rule before.paths h.partial h.none (sym (reserved_best before before.reserve reserved) ∙ none) in
        let P : Definition → Type 0 = λ d. (1 ≤ length d.patterns) × SeesLatest d.window × ArePartial (messages_more messages message) (live_more messages live) d after.paths × NoneWaits (messages_more messages message) (live_more messages live) d in
        let all_four = subst P (sym kept.definition) (h.some, h.sees, paths, waits) in
        record { some = all_four.0; sees = all_four.1; partial = all_four.2; none = all_four.3 }

    -- a tree without the numbers of a firing holds again
    pub fired_holds : (tree : Tree) (taken : List ℕ) → contains_number taken (number_more messages) ≡ true → Holds messages live tree
        → Holds (messages_more messages message) (left_of (live_more messages live) taken) (fired_tree messages message taken tree)
    fired_holds tree taken takes h = record {
      some = h.some;
      sees = h.sees;
      partial = pruned messages message live tree.definition are_live h.sees tree.rule tree.paths h.partial taken takes;
      none = none_left messages message live tree.definition are_live h.sees tree.rule tree.paths h.partial taken takes h.none;
    }

-- a cleared tree holds where no number is live
pub cleared_holds : (messages : List Message) (tree : Tree) → 1 ≤ length tree.definition.patterns → SeesLatest tree.definition.window → Holds messages [] (cleared_tree tree)
cleared_holds messages tree some sees = record {
  some = some;
  sees = sees;
  partial = subst (λ (ps : List Assignment). SameMembers (empty_of d ∷ []) ps) (sym listed) (record { to = λ x m. m; back = λ x m. m });
  none = λ x m. subst (λ (ps : List Assignment). IsIn x ps) none_listed m;
}
  where
    d : Definition
    d = tree.definition

    listed : partial_matches messages [] d ≡ empty_of d ∷ []
    listed = ap (filter (is_partial_match messages d)) (alone messages d.patterns) ∙ rw (empty_partial messages d some) refl

    none_listed : complete_matches messages [] d ≡ []
    none_listed = ap (filter (is_complete_match messages d)) (alone messages d.patterns) ∙ rw (empty_incomplete messages d some) refl
