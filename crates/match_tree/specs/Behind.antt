-- What a number adds behind a leaf.
use Rattle.std.specs.Prelude.{◌≤◌, List, [], ◌∷◌, ℕ, length, Option, Some, None}
use Rattle.std.specs.declared.vec.Vec.{Vec}
use Rattle.std.specs.declared.alloc.Global.{Global}
use Rattle.std.specs.declared.boxed.Box.{Box}
use Rattle.guard_eval.specs.Meaning.{Assignment}
use Rattle.tree_rows.specs.Routes.{Route, Branch, rows_routes}
use Rattle.row_screens.specs.Below.{AreOpen}
use Rattle.match_tree.specs.Growth.{Lasts}
use Rattle.tree_rows.specs.Order.{AreOrdered}

-- the rows behind a leaf, if there are any
abbrev pub Rows : Type 0
Rows = Option (Box (Vec (List Branch) Global) Global)

abbrev pub routes_behind : Rows → List Route
routes_behind None = []
routes_behind (Some rows) = rows_routes 0 rows.value.items

abbrev pub AreFewBehind : Rows → Type 0
AreFewBehind None = Unit {0}
AreFewBehind (Some rows) = length rows.value.items ≤ 8

-- the routes are ordered behind the leaf's own, leave a pattern free, and all take the number
pub record IsBehind (slots : Assignment) (number : ℕ) (routes : List Route) : Type 0 where
  pub ordered : AreOrdered ([] ∷ routes)
  pub free_left : AreOpen slots routes
  pub lasting : Lasts number [] routes
