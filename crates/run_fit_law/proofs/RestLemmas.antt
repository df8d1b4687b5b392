-- Between two arrivals no match waits: a choice takes the newest number, and what a firing leaves has no more partial
-- matches than there were.
use Rattle.std.proofs.Common.{◌≡◌, ◌∙◌, ℕ, ◌+◌, ◌≤◌, List, [], ◌∷◌, length, true, None, Some, refl, arith}
use Rattle.std.specs.List.{AllByRecursion}
use Rattle.std.specs.List.Sorted.{IsStrictlyIncreasing}
use Rattle.join_base.specs.declared.message.Message.{Message}
use Rattle.guard_eval.specs.Meaning.{Assignment}
use Rattle.pattern_core.specs.declared.definition.Definition.{Definition}
use Rattle.pattern_core.specs.declared.candidate.Candidate.{Candidate}
use Rattle.pattern_core.specs.Choice.{candidate_of, choice, least, matches_from}
use Rattle.pattern_core.specs.Matches.{complete_matches, partial_count, partial_matches}
use Rattle.pattern_core.specs.Members.{IsIn}
use Rattle.pattern_core.specs.Window.{SeesLatest}
use Rattle.pattern_core.proofs.MembersLemmas.{IsIn-append_left, IsIn-append_right, IsIn-filter_from, IsIn-map}
use Rattle.join_base.specs.Taken.{contains_number}
use Rattle.row_screens.specs.Offers.{Offered}
use Rattle.match_tree.specs.Tree.{Tree, completions, empty_of, extensions, is_path_without, seen_paths}
use Rattle.tree_law.specs.Partials.{AreLive, NoneWaits, left_of, messages_more, live_more, number_more, offer_more}
use Rattle.tree_law.specs.Trees.{AreReservedFor, AreTreesOf, HoldAll, Holds}
use Rattle.tree_law.proofs.CountLemmas.{once_short, partial_once}
use Rattle.tree_law.proofs.GrowthLemmas.{none_of}
use Rattle.tree_law.proofs.TreesLemmas.{best_is_choice, best_takes, cleared_holds, fired_holds}

-- a definition that has a pattern and sees the latest message, of which no match waits
pub record IsResting (messages : List Message) (live : List ℕ) (d : Definition) : Type 0 where
  pub some : 1 ≤ length d.patterns
  pub sees : SeesLatest d.window
  pub none : NoneWaits messages live d

pub record CanRest (d : Definition) : Type 0 where
  pub some : 1 ≤ length d.patterns
  pub sees : SeesLatest d.window

-- where none is chosen, none waits
pub none_chosen : (messages : List Message) (live : List ℕ) (ds : List Definition) → choice messages live ds ≡ None → AllByRecursion CanRest ds → AllByRecursion (IsResting messages live) ds
none_chosen messages live ds e can = from 1 ds (none_of (matches_from messages live 1 ds) e) can
  where
    from : (rule : ℕ) (ds : List Definition) → ((c : Candidate) → IsIn c (matches_from messages live rule ds) → ⊥) → AllByRecursion CanRest ds → AllByRecursion (IsResting messages live) ds
    from rule [] none can = tt
    from rule (d ∷ ds) none can = (
      record {
        some = can.0.some;
        sees = can.0.sees;
        none = λ slots m. none (candidate_of rule slots) (IsIn-append_left (candidate_of rule slots) _ (matches_from messages live (rule + 1) ds) (IsIn-map (candidate_of rule) slots (complete_matches messages live d) m));
      },
      from (rule + 1) ds (λ c m. none c (IsIn-append_right c _ (matches_from messages live (rule + 1) ds) m)) can.1,
    )

module _ (messages : List Message) (message : Message) (live : List ℕ) (are_live : AreLive messages live) where
  -- the tree of a definition that has its partial matches and what the newest number makes of them
  abbrev tree_of : ℕ → Definition → Tree
  tree_of rule d =
      let o : Offered = offer_more messages message d rule in
      let paths : List Assignment = partial_matches messages live d in
      let seen : List Assignment = seen_paths o paths in
      record { definition = d; rule = rule; paths = paths; reserve = Some record { number = number_more messages; best = least (completions o seen); aside = extensions o seen } }

  abbrev trees_from : ℕ → List Definition → List Tree
  trees_from rule [] = []
  trees_from rule (d ∷ ds) = tree_of rule d ∷ trees_from (rule + 1) ds

  holds : (rule : ℕ) (d : Definition) → IsResting messages live d → Holds messages live (tree_of rule d)
  holds rule d h = record { some = h.some; sees = h.sees; partial = record { to = λ x m. m; back = λ x m. m }; none = h.none }

  hold_all : (rule : ℕ) (ds : List Definition) → AllByRecursion (IsResting messages live) ds → HoldAll messages live (trees_from rule ds)
  hold_all rule [] h = tt
  hold_all rule (d ∷ ds) h = (holds rule d h.0, hold_all (rule + 1) ds h.1)

  are_trees : (rule : ℕ) (ds : List Definition) → AreTreesOf rule ds (trees_from rule ds)
  are_trees rule [] = tt
  are_trees rule (d ∷ ds) = (refl, refl, are_trees (rule + 1) ds)

  reserved_all : (rule : ℕ) (ds : List Definition) → AreReservedFor messages message (trees_from rule ds)
  reserved_all rule [] = tt
  reserved_all rule (d ∷ ds) = ((refl, refl, λ e. record { to = λ x m. m; back = λ x m. m }), reserved_all (rule + 1) ds)

  -- the choice takes the newest number
  pub takes_newest : (ds : List Definition) (c : Candidate) → AllByRecursion (IsResting messages live) ds → choice (messages_more messages message) (live_more messages live) ds ≡ Some c → contains_number c.taken (number_more messages) ≡ true
  takes_newest ds c h e =
      best_takes messages message (trees_from 1 ds) c (reserved_all 1 ds) (best_is_choice messages message live are_live ds (trees_from 1 ds) (are_trees 1 ds) (hold_all 1 ds h) (reserved_all 1 ds) ∙ e)

  module _ (taken : List ℕ) (takes : contains_number taken (number_more messages) ≡ true) where
    abbrev left : List ℕ
    left = left_of (live_more messages live) taken

    -- no match waits among what a firing leaves
    pub fired_rests : (ds : List Definition) → AllByRecursion (IsResting messages live) ds → AllByRecursion (IsResting (messages_more messages message) left) ds
    fired_rests [] h = tt
    fired_rests (d ∷ ds) h =
        let after = fired_holds messages message live are_live (tree_of 1 d) taken takes (holds 1 d h.0) in
        (record { some = after.some; sees = after.sees; none = after.none }, fired_rests ds h.1)

    -- each partial match among it was one before
    pub fired_fewer : IsStrictlyIncreasing left → (ds : List Definition) → AllByRecursion (IsResting messages live) ds → partial_count (messages_more messages message) left ds ≤ partial_count messages live ds
    fired_fewer rising [] h = omega arith
    fired_fewer rising (d ∷ ds) h =
        let after = fired_holds messages message live are_live (tree_of 1 d) taken takes (holds 1 d h.0) in
        let was : List Assignment = partial_matches messages live d in
        let seen : List Assignment = seen_paths (offer_more messages message d 1) was in
        let now : List Assignment = partial_matches (messages_more messages message) left d in
        let one : length now ≤ length was =
        once_short now was (partial_once (messages_more messages message) left rising d)
        (λ x m. (IsIn-filter_from _ x was (IsIn-filter_from (is_path_without taken) x seen (after.partial.back x m)).0).0)
        in
        let later = fired_fewer rising ds h.1 in
        omega arith

none_rises : IsStrictlyIncreasing []
none_rises k l = absurd (omega arith)

-- where no number is live, no match waits, and each definition has one partial match
pub cleared_rests : (messages : List Message) (ds : List Definition) → AllByRecursion CanRest ds → AllByRecursion (IsResting messages []) ds
cleared_rests messages [] can = tt
cleared_rests messages (d ∷ ds) can =
    let after = cleared_holds messages (record { definition = d; rule = 1; paths = []; reserve = None }) can.0.some can.0.sees in
    (record { some = can.0.some; sees = can.0.sees; none = after.none }, cleared_rests messages ds can.1)

pub cleared_count : (messages : List Message) (ds : List Definition) → AllByRecursion CanRest ds → partial_count messages [] ds ≤ length ds
cleared_count messages [] can = omega arith
cleared_count messages (d ∷ ds) can =
    let after = cleared_holds messages (record { definition = d; rule = 1; paths = []; reserve = None }) can.0.some can.0.sees in
    let now : List Assignment = partial_matches messages [] d in
    let one : length now ≤ 1 = once_short now (empty_of d ∷ []) (partial_once messages [] none_rises d) (λ x m. after.partial.back x m) in
    let later = cleared_count messages ds can.1 in
    omega arith

-- one exactly
pub cleared_exact : (messages : List Message) (ds : List Definition) → AllByRecursion CanRest ds → partial_count messages [] ds ≡ length ds
cleared_exact messages [] can = refl
cleared_exact messages (d ∷ ds) can =
    let after = cleared_holds messages (record { definition = d; rule = 1; paths = []; reserve = None }) can.0.some can.0.sees in
    let now : List Assignment = partial_matches messages [] d in
    let most : length now ≤ 1 = once_short now (empty_of d ∷ []) (partial_once messages [] none_rises d) (λ x m. after.partial.back x m) in
    let least : 1 ≤ length now = once_short (empty_of d ∷ []) now ((λ m. m), tt) (λ x m. after.partial.to x m) in
    let later = cleared_exact messages ds can.1 in
    omega arith
