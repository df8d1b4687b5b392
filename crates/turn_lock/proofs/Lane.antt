-- The turn rule as the proofs use it: each cell is at home, or away with one seat.
use Rattle.std.specs.Prelude.{◌≡◌, ◌⊎◌, ℕ, ◌+◌, ◌<◌, Bool, true, false, List, [], length, slice_index, Option, Some}
use mathlib.Core.Option.{some, none}
use lib.ListN.{get_elem?}
use Rattle.atomic_table.specs.Table.{State}
use Rattle.turn_lock.specs.declared.view.View.{View}
use Rattle.turn_lock.specs.declared.view.Turn.TheVariants.{Free, Has}
use Rattle.turn_lock.specs.View.{is_live, IsShaped}
use Rattle.turn_lock.specs.Rule.{IsWithin, SlotState, OneFirst, IsAccounted}

-- the word with these bits
abbrev pub bit : Bool → ℕ → ℕ
bit true n = n
bit false n = 0

abbrev pub word_of : Bool → Bool → Bool → ℕ
word_of queued running flag = bit queued 4 + bit running 2 + bit flag 1

module _ {C G E L : Type 0} (tag : C → G) (lawful : C → Type 0) (history : C → List E) where
  -- The cell i is at home: RUNNING is not set and nobody has the turn
  pub record Home (views : List (View G E L)) (i word : ℕ) (home : SlotState C) (t : G) : Type 0 where
    pub queued : Bool
    pub flag : Bool
    pub word_is : word ≡ word_of queued false flag
    pub cell : C
    pub there : home ≡ some (some (Some cell))
    pub is_lawful : lawful cell
    pub is_tagged : tag cell ≡ t
    pub each : (id : ℕ) (v : View G E L) → get_elem? views id ≡ some v → IsWithin i (history cell) v × ((log : List E) → ¬ (v.turn ≡ Has i log))

  -- The cell i is away: RUNNING is set and just one seat has the turn
  pub record Away (views : List (View G E L)) (i word : ℕ) (home : SlotState C) (t : G) : Type 0 where
    pub queued : Bool
    pub flag : Bool
    pub word_is : word ≡ word_of queued true flag
    pub gone : home ≡ some none
    pub holder : ℕ
    pub view : View G E L
    pub log : List E
    pub at : get_elem? views holder ≡ some view
    pub has : view.turn ≡ Has i log
    pub each : (id : ℕ) (v : View G E L) → get_elem? views id ≡ some v → IsWithin i log v × ((other : List E) → v.turn ≡ Has i other → id ≡ holder)

  abbrev pub Lane : List (View G E L) → ℕ → ℕ → SlotState C → G → Type 0
  Lane views i word home t = Home views i word home t ⊎ Away views i word home t

  pub record Laned (tags : List G) (s : State (Option C) (View G E L)) : Type 0 where
    pub long : length s.words ≡ length tags
    pub deep : length s.homes ≡ length tags
    pub lanes : (i : ℕ) (t : G) → get_elem? tags i ≡ some t → Lane s.views i (slice_index s.words i) (get_elem? s.homes i) t
    pub shapes : (id : ℕ) (v : View G E L) → get_elem? s.views id ≡ some v → is_live v.role ≡ true → IsShaped tags v
    pub spent : (id : ℕ) (v : View G E L) → get_elem? s.views id ≡ some v → is_live v.role ≡ false → (v.turn ≡ Free) × (v.changes ≡ [])
    pub one_first : OneFirst s.views
    pub accounts : (i : ℕ) → i < length tags → IsAccounted i (slice_index s.words i) s.views
