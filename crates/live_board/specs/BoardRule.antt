-- The board's rule, and what a step on the board tells.
use Rattle.std.specs.Prelude.{◌≡◌, ℕ, List, ◌∷◌, Some, map, slice_get}
use Rattle.std.specs.List.{AllByRecursion}
use mathlib.Core.Option.{some}
use mathlib.Core.List.{IsPrefix}
use lib.ListN.{get_elem?}
use Rattle.logbook.specs.Pages.{Book}
use Rattle.live_board.specs.declared.snapshot.Snapshot.{Snapshot}
use Rattle.live_board.specs.History.{front_book, front_records}

-- both are of one history, and the records of the first begin those of the second
abbrev pub Begins : Snapshot → Snapshot → Type 0
Begins p q = (front_book p.front ≡ front_book q.front) × IsPrefix (front_records p.front) (front_records q.front)

-- all that a seat has seen begins this
abbrev pub SeenBegin : Snapshot → List Snapshot → Type 0
SeenBegin x seen = AllByRecursion (λ p. Begins p x) seen

-- what any seat has seen begins what is published
abbrev pub AllBegin : Snapshot → List (List Snapshot) → Type 0
AllBegin x views = (seat : ℕ) (seen : List Snapshot) → get_elem? views seat ≡ some seen → SeenBegin x seen

-- what was seen before begins what is published, which is seen then
abbrev pub SeesNext : List Snapshot → Snapshot → Snapshot → List Snapshot → Type 0
SeesNext v x y w = SeenBegin x v × (w ≡ y ∷ v)

-- what was seen last is of this history
abbrev pub HasSeenOf : Book → List Snapshot → Type 0
HasSeenOf b seen = slice_get (map (λ (p : Snapshot). front_book p.front) seen) 0 ≡ Some b
