-- Nodes of a row of which some are without the routes that take a number.
use Rattle.std.specs.Prelude.{◌≡◌, ◌⊎◌, ℕ, ◌<◌, ◌≤◌, List, [], ◌∷◌, length, true, false}
use Rattle.std.specs.List.{AllByRecursion}
use Rattle.join_base.specs.declared.message.Message.{Message}
use Rattle.guard_eval.specs.Meaning.{Assignment}
use Rattle.pattern_core.specs.declared.definition.Definition.{Definition}
use Rattle.pattern_core.specs.Matches.{is_agreeable}
use Rattle.pattern_core.specs.Suits.{SlotsSuit}
use Rattle.value_index.specs.Index.{Index}
use Rattle.tree_rows.specs.Routes.{Route, Branch, filled, lacks, node_routes, with_number}
use Rattle.tree_rows.specs.Rows.{node_at}
use Rattle.row_screens.specs.Below.{Climbs}
use Rattle.row_screens.specs.Offers.{Offered, may_take}
use Rattle.row_screens.specs.Offering.{AreIndexed, LeadsOn}
use Rattle.match_tree.specs.Growth.{IsEarned}
use Rattle.row_screens.specs.Screen.{IsOffered}
use Rattle.tree_rows.specs.Pruned.{pruned}

-- the route climbs from the path, suits the messages, is agreeable, and the index has its numbers
pub record ContinuesPath (messages : List Message) (index : Index) (definition : Definition) (slots : Assignment) (route : Route) : Type 0 where
  pub climbs : Climbs slots route
  pub suits : SlotsSuit messages definition.patterns (filled slots route)
  pub agreeable : is_agreeable messages definition.conjuncts (filled slots route) ≡ true
  pub indexed : AreIndexed index messages (filled slots route)

abbrev pub ContinuePath : Offered → Assignment → List Route → Type 0
ContinuePath o slots routes = AllByRecursion (ContinuesPath o.messages o.index o.definition slots) routes

-- the routes by each node of a pattern's row do
abbrev pub NodesContinuePath : Offered → Assignment → ℕ → List Branch → Type 0
NodesContinuePath o slots pattern row = AllByRecursion (λ node. ContinuePath o slots (node_routes pattern node)) row

-- each node is without the routes that take one of the numbers, or it is as it was, and then the rest is true of its number
pub record IsThinned (numbers : List ℕ) (Rest : ℕ → Type 0) (before now : List Branch) : Type 0 where
  pub long : length now ≡ length before
  pub each : (i : ℕ) → i < length before → (node_at now i ≡ pruned numbers (node_at before i)) ⊎ ((node_at now i ≡ node_at before i) × Rest (node_at before i).number)

-- behind a lesser number of the pattern the other one may not take the offered number
abbrev pub IsBarred : Offered → Assignment → ℕ → ℕ → ℕ → Type 0
IsBarred o slots pattern other number = number < o.number → may_take o (with_number slots pattern number) other ≡ false

-- no pattern may take the offered number beside the others
abbrev pub IsQuiet : Offered → Assignment → Type 0
IsQuiet o slots = (pattern : ℕ) → may_take o slots pattern ≡ false

-- the number may be offered behind a lesser one, and it is taken there only where a pattern may take it
pub record IsGuarded (o : Offered) (slots : Assignment) (pattern : ℕ) (node : Branch) : Type 0 where
  pub there : node.number < o.number → IsOffered o slots pattern node.number
  pub quiet : IsQuiet o (with_number slots pattern node.number) → pruned (o.number ∷ []) node ≡ node
  pub above : o.number ≤ node.number → pruned (o.number ∷ []) node ≡ node

-- a visit with the number has left the route
pub record IsVisited (o : Offered) (slots : Assignment) (route : Route) : Type 0 where
  pub climbs : Climbs slots route
  pub earned : IsEarned o slots route
  pub lead : lacks (o.number ∷ []) route ≡ true → LeadsOn o slots route

abbrev pub AreVisited : Offered → Assignment → List Route → Type 0
AreVisited o slots routes = AllByRecursion (IsVisited o slots) routes
