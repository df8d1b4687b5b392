-- The numbers of the unconsumed arrivals.
use Rattle.std.specs.Prelude.{◌≡◌, ℕ, ◌+◌, ◌-◌, List, [], ◌∷◌, ◌⊎◌, Bool, not, ◌==◌, length, replicate, take, vec_capacity}
use Rattle.std.specs.List.{filter}
use Rattle.mailbox_core.specs.declared.live.LiveNumbers.TheInside.{Inside}

-- the numbers up to a count that are left, and for how many more there is room
pub record Live : Type 0 where
  pub count : ℕ
  pub numbers : List ℕ
  pub room : ℕ

abbrev pub is_number : ℕ → Bool
is_number cell = not (cell == 0)

-- each cell has the number of its place, the first of them `from`, or 0
abbrev pub InPlace : ℕ → List ℕ → Type 0
InPlace from [] = Unit {0}
InPlace from (cell ∷ cells) = ((cell ≡ 0) ⊎ (cell ≡ from)) × InPlace (from + 1) cells

-- the numbers at their places, and cells of 0 at the front, as many as `clear` passes over
pub record IsKept (a : Inside) : Type 0 where
  pub in_place : InPlace 1 a.cells.items
  pub cleared : take a.cleared a.cells.items ≡ replicate a.cleared 0

abbrev pub live_of : Inside → Live
live_of a = record {
  count = length a.cells.items;
  numbers = filter is_number a.cells.items;
  room = vec_capacity a.cells - length a.cells.items;
}
