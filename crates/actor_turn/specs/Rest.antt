-- What holds of every actor between two arrivals: what its trees hold, and that no complete match waits.
use Rattle.std.specs.Prelude.{◌≡◌, List, [], ◌∷◌, false}
use Rattle.std.specs.List.{AllByRecursion}
use Rattle.match_tree.specs.Tree.{Tree, empty_of}
use Rattle.tree_law.specs.Partials.{ArePartial}
use Rattle.tree_law.specs.Trees.{AreSettled, AreTreesOf, HasOnce}
use Rattle.fair_semantics.specs.Step.{State, definitions_of, is_running, recorded_messages}
use Rattle.run_fit_law.specs.RestLaw.{HasNoMatch, TakesNewest}
use Rattle.actor_turn.specs.Held.{Held}

-- the paths of the tree are the partial matches of its definition over the recorded messages and the numbers that are
-- not consumed
abbrev pub IsPartialIn : State → Tree → Type 0
IsPartialIn state tree = ArePartial (recorded_messages state.entries) state.live tree.definition tree.paths

-- no number is left, and each tree has the empty path alone
pub record IsEmptied (held : Held) : Type 0 where
  pub none_left : held.state.live ≡ []
  pub alone : AllByRecursion (λ tree. tree.paths ≡ empty_of tree.definition ∷ []) held.trees

-- there is a tree for each definition, in order, whose paths are its partial matches, each once, and nothing is set
-- aside; an actor that has ended is emptied
pub record HoldsPartialMatches (held : Held) : Type 0 where
  pub of_rules : AreTreesOf 1 (definitions_of held.setting.rules) held.trees
  pub partial : AllByRecursion (IsPartialIn held.state) held.trees
  pub once : AllByRecursion HasOnce held.trees
  pub settled : AreSettled held.trees
  pub ended : is_running held.state.ending ≡ false → IsEmptied held

-- no definition has a complete match; so each firing took the newest message
pub record NoMatchWaits (held : Held) : Type 0 where
  pub none : AllByRecursion (HasNoMatch held.state) (definitions_of held.setting.rules)
  pub newest : AllByRecursion TakesNewest held.state.entries
