-- All trees of an actor after a step.
use Rattle.std.proofs.Common.{◌≡◌, ◌∙◌, ℕ, ◌+◌, List, [], ◌∷◌, map, true, None, refl}
use Rattle.join_base.specs.declared.message.Message.{Message}
use Rattle.pattern_core.specs.declared.definition.Definition.{Definition}
use Rattle.join_base.specs.Taken.{contains_number}
use Rattle.match_tree.specs.Tree.{Tree}
use Rattle.tree_law.specs.Partials.{AreLive, messages_more, number_more, live_more, left_of}
use Rattle.tree_law.specs.Trees.{HoldAll, AreTreesOf, AreReservedFor, reserve_best, best_of, AreKept, AreSettled, fired_tree, cleared_tree}
use Rattle.tree_law.proofs.TreesLemmas.{none_first, kept_holds, fired_holds, cleared_holds}

module _ (messages : List Message) (message : Message) (live : List ℕ) (are_live : AreLive messages live) where
  pub all_kept : (before after : List Tree) → HoldAll messages live before → AreReservedFor messages message before → best_of before ≡ None → AreKept messages message before after
      → HoldAll (messages_more messages message) (live_more messages live) after
  all_kept [] [] h reserved none kept = tt
  all_kept [] (t ∷ after) h reserved none kept = absurd kept
  all_kept (t ∷ before) [] h reserved none kept = absurd kept
  all_kept (t ∷ before) (u ∷ after) h reserved none kept =
      let parts = none_first (reserve_best t.reserve) (best_of before) none in
      (kept_holds messages message live are_live t u h.0 reserved.0 parts.0 kept.0, all_kept before after h.1 reserved.1 parts.1 kept.1)

  pub all_fired : (taken : List ℕ) → contains_number taken (number_more messages) ≡ true → (trees : List Tree) → HoldAll messages live trees
      → HoldAll (messages_more messages message) (left_of (live_more messages live) taken) (map (fired_tree messages message taken) trees)
  all_fired taken takes [] h = tt
  all_fired taken takes (t ∷ trees) h = (fired_holds messages message live are_live t taken takes h.0, all_fired taken takes trees h.1)

-- cleared trees hold whatever is recorded, where no number is live
pub all_cleared : (before messages : List Message) (live : List ℕ) (trees : List Tree) → HoldAll before live trees → HoldAll messages [] (map cleared_tree trees)
all_cleared before messages live [] h = tt
all_cleared before messages live (t ∷ trees) h = (cleared_holds messages t h.0.some h.0.sees, all_cleared before messages live trees h.1)

-- they stay the trees of their definitions
pub kept_of : (messages : List Message) (message : Message) (rule : ℕ) (definitions : List Definition) (before after : List Tree) → AreTreesOf rule definitions before → AreKept messages message before after → AreTreesOf rule definitions after
kept_of messages message rule [] [] [] are kept = tt
kept_of messages message rule [] [] (u ∷ after) are kept = absurd kept
kept_of messages message rule [] (t ∷ before) after are kept = absurd are
kept_of messages message rule (d ∷ definitions) [] after are kept = absurd are
kept_of messages message rule (d ∷ definitions) (t ∷ before) [] are kept = absurd kept
kept_of messages message rule (d ∷ definitions) (t ∷ before) (u ∷ after) are kept =
    (kept.0.definition ∙ are.0, kept.0.rule ∙ are.1, kept_of messages message (rule + 1) definitions before after are.2 kept.1)

pub fired_of : (messages : List Message) (message : Message) (taken : List ℕ) (rule : ℕ) (definitions : List Definition) (trees : List Tree) → AreTreesOf rule definitions trees → AreTreesOf rule definitions (map (fired_tree messages message taken) trees)
fired_of messages message taken rule [] [] are = tt
fired_of messages message taken rule [] (t ∷ trees) are = absurd are
fired_of messages message taken rule (d ∷ definitions) [] are = absurd are
fired_of messages message taken rule (d ∷ definitions) (t ∷ trees) are = (are.0, are.1, fired_of messages message taken (rule + 1) definitions trees are.2)

pub cleared_of : (rule : ℕ) (definitions : List Definition) (trees : List Tree) → AreTreesOf rule definitions trees → AreTreesOf rule definitions (map cleared_tree trees)
cleared_of rule [] [] are = tt
cleared_of rule [] (t ∷ trees) are = absurd are
cleared_of rule (d ∷ definitions) [] are = absurd are
cleared_of rule (d ∷ definitions) (t ∷ trees) are = (are.0, are.1, cleared_of (rule + 1) definitions trees are.2)

pub fired_settled : (messages : List Message) (message : Message) (taken : List ℕ) (trees : List Tree) → AreSettled (map (fired_tree messages message taken) trees)
fired_settled messages message taken [] = tt
fired_settled messages message taken (t ∷ trees) = (refl, fired_settled messages message taken trees)

pub cleared_settled : (trees : List Tree) → AreSettled (map cleared_tree trees)
cleared_settled [] = tt
cleared_settled (t ∷ trees) = (refl, cleared_settled trees)
