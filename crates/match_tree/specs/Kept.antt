-- What a tree shows of its nodes, and what it keeps of them.
use Rattle.std.specs.Prelude.{◌≡◌, ◌+◌, ◌≤◌, ℕ, List, [], ◌∷◌, map, length, true, not, Option, Some, None}
use Rattle.std.specs.List.{filter, AllByRecursion}
use Rattle.guard_eval.specs.Meaning.{Assignment}
use Rattle.pattern_core.specs.declared.definition.Definition.{Definition}
use Rattle.tree_rows.specs.Routes.{Route, Branch, rows_routes, filled, lacks, is_seen}
use Rattle.pattern_core.specs.Window.{oldest_seen}
use Rattle.row_screens.specs.Below.{AreOpen}
use Rattle.tree_rows.specs.Order.{AreSound}
use Rattle.match_tree.specs.Tree.{Tree, Reserve, empty_of}
use Rattle.row_screens.specs.Ties.{AreTied}
use Rattle.match_tree.specs.declared.pending.Pending.{Pending}
use Rattle.row_screens.specs.declared.ties.Ties.{Ties}

-- the routes without those that a reserve has added
abbrev pub lasting : Option Pending → List Route → List Route
lasting None routes = routes
lasting (Some pending) routes = filter (lacks (pending.number ∷ [])) routes

-- the routes that a reserve has added
abbrev pub added : Pending → List Route → List Route
added pending routes = filter (λ r. not (lacks (pending.number ∷ []) r)) routes

abbrev pub paths_of : Definition → List Route → List Assignment
paths_of definition routes = map (filled (empty_of definition)) routes

abbrev pub reserve_of : Definition → Option Pending → List Route → Option Reserve
reserve_of definition None routes = None
reserve_of definition (Some pending) routes = Some record { number = pending.number; best = pending.best; aside = paths_of definition (added pending routes) }

abbrev pub CountsAdded : Option Pending → List Route → Type 0
CountsAdded None routes = Unit {0}
CountsAdded (Some pending) routes = pending.aside ≡ length (added pending routes)

-- where the definition sees the number of a reserve, it sees the routes that were added for it
abbrev pub SeesAdded : Definition → Option Pending → List Route → Type 0
SeesAdded definition None routes = Unit {0}
SeesAdded definition (Some pending) routes = oldest_seen definition.window pending.number ≤ pending.number → AllByRecursion (λ r. is_seen (oldest_seen definition.window pending.number) r ≡ true) (added pending routes)

-- a definition without a window sees the routes
abbrev pub SeesAll : Definition → List Route → Type 0
SeesAll definition routes = definition.window ≡ None → AllByRecursion (λ r. is_seen 1 r ≡ true) routes

-- what a tree keeps
pub record IsKept (definition : Definition) (ties : Ties) (rows : List (List Branch)) (count : ℕ) (pending : Option Pending) : Type 0 where
  pub some : 1 ≤ length definition.patterns
  pub many : length definition.patterns ≤ 8
  pub tied : AreTied ties definition.conjuncts
  pub few : length rows ≤ 8
  pub sound : AreSound rows
  pub free_left : AreOpen (empty_of definition) (rows_routes 0 rows)
  pub sees_all : SeesAll definition (rows_routes 0 rows)
  pub counted : count ≡ 1 + length (rows_routes 0 rows)
  pub aside : CountsAdded pending (rows_routes 0 rows)
  pub seen : SeesAdded definition pending (rows_routes 0 rows)

-- the tree that is shown
abbrev pub tree_of : Definition → ℕ → Option Pending → List Route → Tree
tree_of definition rule pending routes = record {
  definition = definition;
  rule = rule;
  paths = paths_of definition ([] ∷ lasting pending routes);
  reserve = reserve_of definition pending routes;
}
