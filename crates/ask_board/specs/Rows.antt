-- Items for the asks: for each feed, and for each actor, one for each of the posts.
use Rattle.std.specs.Prelude.{ℕ, zero, suc, List, Option, None, map, slice_get}
use Rattle.std.specs.Option.{option_and_then}
use Rattle.ask_board.specs.declared.view.Ask.{Ask}

abbrev pub Rows : Type 0 → Type 0
Rows A = List (List (List A))

abbrev pub map_rows : {A B : Type 0} → (A → B) → Rows A → Rows B
map_rows {A} f rows = map (λ (actors : List (List A)). map (λ (posts : List A). map f posts) actors) rows

-- the item at a place that is counted from 1
abbrev pub from_one : {A : Type 0} → List A → ℕ → Option A
from_one items zero = None
from_one items (suc place) = slice_get items place

-- the item of an ask, where there is one
abbrev pub item_of : {A : Type 0} → Rows A → Ask → Option A
item_of {A} rows ask = option_and_then (λ (posts : List A). from_one posts ask.place) (option_and_then (λ (actors : List (List A)). slice_get actors ask.actor) (from_one rows ask.feed))
