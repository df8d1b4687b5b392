-- Trees to which a further message is offered.
use Rattle.std.proofs.Common.{◌≡◌, ℕ, ◌+◌, ◌≤◌, List, [], ◌∷◌, map, length, suc, Bool, true, false, cond, None, refl, ap, sym, subst, arith}
use Rattle.std.specs.List.{filter, AllByRecursion}
use Rattle.join_base.specs.declared.message.Message.{Message}
use Rattle.guard_eval.specs.Meaning.{Assignment}
use Rattle.pattern_core.specs.declared.definition.Definition.{Definition}
use Rattle.pattern_core.specs.Matches.{partial_matches}
use Rattle.pattern_core.specs.Suits.{DefinitionSuits}
use Rattle.pattern_core.specs.Window.{SeesLatest, oldest_seen}
use Rattle.value_index.specs.Index.{Index}
use Rattle.match_tree.specs.Tree.{Tree, is_path_seen, is_path_without, empty_of}
use Rattle.match_tree.specs.Tries.{tried, tries}
use Rattle.tree_law.specs.Partials.{AreLive, messages_more, number_more, offer_more}
use Rattle.tree_law.specs.Trees.{HoldAll, HasOnce, AreTreesOf, AreReservedFor, AreSettled, CanOfferTo, HasPaths, IsReservedAt, cleared_tree, expired_tree, path_count, settled_tree, tries_at, tries_from}
use Rattle.tree_law.proofs.CountLemmas.{once_filter, once_sum}
use Rattle.tree_law.proofs.OfferLemmas.{can_offer}
use Rattle.tree_law.proofs.TreesLemmas.{cleared_holds}
use Rattle.actor_turn.specs.Held.{new_trees}
use Rattle.actor_turn.specs.Parts.{fired_at}
use Rattle.actor_turn.specs.Steady.{HasPatterns}

-- ---- what is offered, and how often it is tried

module _ (messages : List Message) (message : Message) (live : List ℕ) where
  pub can_offer_all : AreLive messages live → (rule : ℕ) (definitions : List Definition) (trees : List Tree) → AllByRecursion (DefinitionSuits (messages_more messages message)) definitions
      → AreTreesOf rule definitions trees → HoldAll messages live trees → AllByRecursion (CanOfferTo (messages_more messages message) (number_more messages)) trees
  can_offer_all are_live rule [] [] suits are hold = tt
  can_offer_all are_live rule [] (t ∷ trees) suits are hold = absurd are
  can_offer_all are_live rule (d ∷ definitions) [] suits are hold = absurd are
  can_offer_all are_live rule (d ∷ definitions) (t ∷ trees) suits are hold =
      let own = subst (λ (x : Definition). DefinitionSuits (messages_more messages message) x) (sym are.0) suits.0 in
      (can_offer messages message live t are_live own hold.0, can_offer_all are_live (rule + 1) definitions trees suits.1 are.2 hold.1)

  pub tries_counted : (rule : ℕ) (definitions : List Definition) (trees : List Tree) → AreTreesOf rule definitions trees → HoldAll messages live trees → AllByRecursion HasOnce trees
      → tries_at (messages_more messages message) (number_more messages) trees ≤ tries_from messages message live rule definitions
  tries_counted rule [] [] are hold once = omega arith
  tries_counted rule [] (t ∷ trees) are hold once = absurd are
  tries_counted rule (d ∷ definitions) [] are hold once = absurd are
  tries_counted rule (d ∷ definitions) (t ∷ trees) are hold once =
      let o = offer_more messages message t.definition t.rule in
      let one : tries o t.paths ≤ tries o (partial_matches messages live t.definition) = once_sum (λ (path : Assignment). length (tried o path)) t.paths (partial_matches messages live t.definition) once.0 hold.0.partial.to in
      let same : tries o (partial_matches messages live t.definition) ≡ tries (offer_more messages message d rule) (partial_matches messages live d) = λ i. tries (offer_more messages message (are.0 i) (are.1 i)) (partial_matches messages live (are.0 i)) in
      let rest = tries_counted (rule + 1) definitions trees are.2 hold.1 once.1 in
      omega arith

-- ---- trees with something set aside, by those without

pub unsettled_of : (rule : ℕ) (definitions : List Definition) (trees : List Tree) → AreTreesOf rule definitions (map settled_tree trees) → AreTreesOf rule definitions trees
unsettled_of rule [] [] h = h
unsettled_of rule [] (t ∷ trees) h = h
unsettled_of rule (d ∷ definitions) [] h = h
unsettled_of rule (d ∷ definitions) (t ∷ trees) h = (h.0, h.1, unsettled_of (rule + 1) definitions trees h.2)

pub unsettled_hold : (messages : List Message) (live : List ℕ) (trees : List Tree) → HoldAll messages live (map settled_tree trees) → HoldAll messages live trees
unsettled_hold messages live [] h = tt
unsettled_hold messages live (t ∷ trees) h = (record { some = h.0.some; sees = h.0.sees; partial = h.0.partial; none = h.0.none }, unsettled_hold messages live trees h.1)

pub unsettled_can : (messages : List Message) (number : ℕ) (trees : List Tree) → AllByRecursion (CanOfferTo messages number) (map settled_tree trees) → AllByRecursion (CanOfferTo messages number) trees
unsettled_can messages number [] h = tt
unsettled_can messages number (t ∷ trees) h = (h.0, unsettled_can messages number trees h.1)

pub unsettled_paths : (index : Index) (messages : List Message) (trees : List Tree) → AllByRecursion (HasPaths index messages) (map settled_tree trees) → AllByRecursion (HasPaths index messages) trees
unsettled_paths index messages [] h = tt
unsettled_paths index messages (t ∷ trees) h = (h.0, unsettled_paths index messages trees h.1)

pub unsettled_once : (trees : List Tree) → AllByRecursion HasOnce (map settled_tree trees) → AllByRecursion HasOnce trees
unsettled_once [] h = tt
unsettled_once (t ∷ trees) h = (h.0, unsettled_once trees h.1)

pub unsettled_count : (trees : List Tree) → path_count (map settled_tree trees) ≡ path_count trees
unsettled_count [] = refl
unsettled_count (t ∷ trees) = ap (λ (n : ℕ). length t.paths + n) (unsettled_count trees)

pub reserved_for : (messages : List Message) (message : Message) (trees : List Tree) → AllByRecursion (IsReservedAt (messages_more messages message) (number_more messages)) trees → AreReservedFor messages message trees
reserved_for messages message [] h = tt
reserved_for messages message (t ∷ trees) h = (h.0, reserved_for messages message trees h.1)

-- ---- paths are few, and none stands twice

filter_short : {X : Type 0} (p : X → Bool) (xs : List X) → length (filter p xs) ≤ length xs
filter_short p [] = omega arith
filter_short {X} p (x ∷ xs) = by (p x) (filter_short p xs)
  where
    by : (b : Bool) → length (filter p xs) ≤ length xs → length (cond b (x ∷ filter p xs) (filter p xs)) ≤ suc (length xs)
    by true l = omega arith
    by false l = omega arith

fired_count : (number : ℕ) (taken : List ℕ) (trees : List Tree) → path_count (map (fired_at number taken) trees) ≤ path_count trees
fired_count number taken [] = omega arith
fired_count number taken (t ∷ trees) =
    let first = filter_short (is_path_seen (oldest_seen t.definition.window number)) t.paths in
    let second = filter_short (is_path_without taken) (expired_tree number t).paths in
    let rest = fired_count number taken trees in
    omega arith

pub fired_few : (number : ℕ) (taken : List ℕ) (trees : List Tree) → path_count trees ≤ 1000000 → path_count (map (fired_at number taken) trees) ≤ 1000000
fired_few number taken trees few = let less = fired_count number taken trees in omega arith

pub fired_once : (number : ℕ) (taken : List ℕ) (trees : List Tree) → AllByRecursion HasOnce trees → AllByRecursion HasOnce (map (fired_at number taken) trees)
fired_once number taken [] h = tt
fired_once number taken (t ∷ trees) h =
    (once_filter (is_path_without taken) (expired_tree number t).paths (once_filter (is_path_seen (oldest_seen t.definition.window number)) t.paths h.0), fired_once number taken trees h.1)

pub cleared_once : (trees : List Tree) → AllByRecursion HasOnce (map cleared_tree trees)
cleared_once [] = tt
cleared_once (t ∷ trees) = ((λ m. absurd m, tt), cleared_once trees)

pub cleared_count : (trees : List Tree) → path_count (map cleared_tree trees) ≡ length trees
cleared_count [] = refl
cleared_count (t ∷ trees) = let rest = cleared_count trees in omega arith

pub trees_count : (rule : ℕ) (definitions : List Definition) (trees : List Tree) → AreTreesOf rule definitions trees → length trees ≡ length definitions
trees_count rule [] [] h = refl
trees_count rule [] (t ∷ trees) h = absurd h
trees_count rule (d ∷ definitions) [] h = absurd h
trees_count rule (d ∷ definitions) (t ∷ trees) h = ap suc (trees_count (rule + 1) definitions trees h.2)

-- ---- the trees of a new actor

pub new_of : (rule : ℕ) (definitions : List Definition) → AreTreesOf rule definitions (new_trees rule definitions)
new_of rule [] = tt
new_of rule (d ∷ definitions) = (refl, refl, new_of (rule + 1) definitions)

pub new_hold : (rule : ℕ) (definitions : List Definition) → AllByRecursion HasPatterns definitions → AllByRecursion (λ (d : Definition). SeesLatest d.window) definitions → HoldAll [] [] (new_trees rule definitions)
new_hold rule [] patterns see = tt
new_hold rule (d ∷ definitions) patterns see =
    (cleared_holds [] (record { definition = d; rule = rule; paths = empty_of d ∷ []; reserve = None }) patterns.0.0 see.0, new_hold (rule + 1) definitions patterns.1 see.1)

pub new_settled : (rule : ℕ) (definitions : List Definition) → AreSettled (new_trees rule definitions)
new_settled rule [] = tt
new_settled rule (d ∷ definitions) = (refl, new_settled (rule + 1) definitions)

pub new_once : (rule : ℕ) (definitions : List Definition) → AllByRecursion HasOnce (new_trees rule definitions)
new_once rule [] = tt
new_once rule (d ∷ definitions) = ((λ m. absurd m, tt), new_once (rule + 1) definitions)

pub new_count : (rule : ℕ) (definitions : List Definition) → path_count (new_trees rule definitions) ≡ length definitions
new_count rule [] = refl
new_count rule (d ∷ definitions) = let rest = new_count (rule + 1) definitions in omega arith
