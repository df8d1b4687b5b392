-- The trees of an actor, and the state that it shows.
use Rattle.std.specs.Prelude.{◌≤◌, List, length}
use Rattle.pattern_core.specs.declared.definition.Definition.{Definition}
use Rattle.match_tree.specs.Tree.{Tree}
use Rattle.tree_law.specs.Partials.{AreLive}
use Rattle.tree_law.specs.Trees.{HoldAll, AreTreesOf, AreSettled}
use Rattle.fair_semantics.specs.Step.{Setting, State, recorded_messages, definitions_of}

-- one tree for each rule, in order, which holds the partial matches of the recorded messages and live numbers; no
-- complete match waits, and nothing is set aside
pub record IsSteady (setting : Setting) (state : State) (trees : List Tree) : Type 0 where
  pub live : AreLive (recorded_messages state.entries) state.live
  pub of_rules : AreTreesOf 1 (definitions_of setting.rules) trees
  pub hold : HoldAll (recorded_messages state.entries) state.live trees
  pub settled : AreSettled trees

-- from 1 to 8 patterns
abbrev pub HasPatterns : Definition → Type 0
HasPatterns definition = (1 ≤ length definition.patterns) × (length definition.patterns ≤ 8)
