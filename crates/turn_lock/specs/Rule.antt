-- The turn rule: how the words, the slots and the views fit together after each step.
use Rattle.std.specs.Prelude.{◌≡◌, ℕ, ◌+◌, ◌<◌, ◌≤◌, ◌↔◌, true, false, List, [], ◌∷◌, length, slice_index, bit_and, Option, Some}
use mathlib.Core.Option.{some, none}
use mathlib.Core.Option as maybe
use mathlib.Core.List.{IsPrefix}
use lib.ListN.{get_elem?}
use Rattle.atomic_table.specs.Table.{State}
use Rattle.turn_lock.specs.declared.view.View.{View}
use Rattle.turn_lock.specs.declared.view.Turn.TheVariants.{Free, Has}
use Rattle.turn_lock.specs.declared.view.Role.TheVariants.{First}
use Rattle.turn_lock.specs.View.{is_live, seats_out, seen_of, met_of, changes_of, requests_of, flag_of, mark_of, IsShaped}

-- Each cell has a word of three bits: FLAG is 1, RUNNING is 2 and QUEUED is 4

-- the word has this bit
abbrev pub HasBit : ℕ → ℕ → Type 0
HasBit mask word = bit_and word mask ≡ mask

abbrev pub LacksBit : ℕ → ℕ → Type 0
LacksBit mask word = bit_and word mask ≡ 0

-- a turn of the cell was asked for, and none has begun since
abbrev pub HasFlag : ℕ → Type 0
HasFlag = HasBit 1

abbrev pub LacksFlag : ℕ → Type 0
LacksFlag = LacksBit 1

-- a seat has the turn of the cell
abbrev pub IsRunning : ℕ → Type 0
IsRunning = HasBit 2

abbrev pub IsIdle : ℕ → Type 0
IsIdle = LacksBit 2

-- the cell is marked
abbrev pub IsQueued : ℕ → Type 0
IsQueued = HasBit 4

abbrev pub IsUnqueued : ℕ → Type 0
IsUnqueued = LacksBit 4

module _ {G E L : Type 0} where
  -- what the view has seen and met of the cell i begins this history
  abbrev pub IsWithin : ℕ → List E → View G E L → Type 0
  IsWithin i log v = IsPrefix (seen_of v i) log × IsPrefix (met_of v i) log

  -- some view has the turn of the cell i: its number, the view and the history found
  abbrev pub SomeoneHas : ℕ → List (View G E L) → Type 0
  SomeoneHas i views = (id : ℕ) × (v : View G E L) × (log : List E) × (get_elem? views id ≡ some v) × (v.turn ≡ Has i log)

  -- just one view is the first seat's, and it knows how many seats are out
  pub record OneFirst (views : List (View G E L)) : Type 0 where
    pub seat : ℕ
    pub view : View G E L
    pub out : ℕ
    pub at : get_elem? views seat ≡ some view
    pub is_first : view.role ≡ First out
    pub counts : out ≡ seats_out views
    pub alone : (id : ℕ) (v : View G E L) (n : ℕ) → get_elem? views id ≡ some v → v.role ≡ First n → id ≡ seat

  -- a number of each view, added up
  abbrev pub total : (View G E L → ℕ) → List (View G E L) → ℕ
  total f [] = 0
  total f (v ∷ vs) = f v + total f vs

  -- over all views, how often FLAG and QUEUED of the cell i were set and cleared
  abbrev pub flags_set : ℕ → List (View G E L) → ℕ
  flags_set i = total (λ v. (changes_of v i).flag_set)

  abbrev pub flags_cleared : ℕ → List (View G E L) → ℕ
  flags_cleared i = total (λ v. (changes_of v i).flag_cleared)

  abbrev pub marks_set : ℕ → List (View G E L) → ℕ
  marks_set i = total (λ v. (changes_of v i).mark_set)

  abbrev pub marks_cleared : ℕ → List (View G E L) → ℕ
  marks_cleared i = total (λ v. (changes_of v i).mark_cleared)

  -- The views together account for FLAG and QUEUED of the cell i, which has this word
  pub record IsAccounted (i word : ℕ) (views : List (View G E L)) : Type 0 where
    -- each bit was set as often as it was cleared, and once more where the word has it
    pub flag : flags_set i views ≡ flags_cleared i views + flag_of word
    pub mark : marks_set i views ≡ marks_cleared i views + mark_of word
    -- no view knows of a request that was not made
    pub known : (id : ℕ) (v : View G E L) → get_elem? views id ≡ some v → requests_of v i ≤ flags_set i views
    -- an owner knows of the requests that were answered, by it or before it
    pub answered : (id : ℕ) (v : View G E L) (log : List E) → get_elem? views id ≡ some v → v.turn ≡ Has i log → requests_of v i ≡ flags_cleared i views

-- what the rule sees of a slot: none past the last slot, else none where it is away, else what lies in it
abbrev pub SlotState : Type 0 → Type 0
SlotState C = maybe.Option (maybe.Option (Option C))

-- the slot i is at home, with a cell that is lawful and has the tag of its place
abbrev pub HoldsCell : {C G : Type 0} → (C → G) → (C → Type 0) → List G → ℕ → SlotState C → Type 0
HoldsCell tag lawful tags i slot = (c : _) × (slot ≡ some (some (Some c))) × lawful c × (get_elem? tags i ≡ some (tag c))

module _ {C G E L : Type 0} (tag : C → G) (lawful : C → Type 0) (history : C → List E) where
  -- The turn rule. The tags are those of the cells that the lock was made with, and the words, the slots and the views are the table's.
  pub record TurnRule (tags : List G) (s : State (Option C) (View G E L)) : Type 0 where
    -- there is a word and a slot for each cell
    pub long : length s.words ≡ length tags
    pub deep : length s.homes ≡ length tags
    -- 1. three bits are all that a word has: FLAG, RUNNING and QUEUED
    pub bits : (i : ℕ) → i < length tags → slice_index s.words i < 8
    -- 2. RUNNING stands for an owner, a view at a turn of the cell, and there is never a second one
    pub running : (i : ℕ) → i < length tags → IsRunning (slice_index s.words i) ↔ SomeoneHas i s.views
    pub no_two : (i : ℕ) → i < length tags → (a b : SomeoneHas i s.views) → a.0 ≡ b.0
    -- 3. an owner has emptied the slot, and with no owner a lawful cell lies there, with the tag of its place
    pub away : (i : ℕ) → i < length tags → IsRunning (slice_index s.words i) → get_elem? s.homes i ≡ some none
    pub home : (i : ℕ) → i < length tags → IsIdle (slice_index s.words i) → HoldsCell tag lawful tags i (get_elem? s.homes i)
    -- 4. seats in use agree on the tags, and a seat that was joined away has no turn and no changes
    pub shapes : (id : ℕ) (v : View G E L) → get_elem? s.views id ≡ some v → is_live v.role ≡ true → IsShaped tags v
    pub spent : (id : ℕ) (v : View G E L) → get_elem? s.views id ≡ some v → is_live v.role ≡ false → (v.turn ≡ Free) × (v.changes ≡ [])
    -- 5. a list that a seat has seen or met is where the cell's history starts, and with an owner, where the history that the owner found starts
    pub seen_home : (i : ℕ) (c : C) → i < length tags → get_elem? s.homes i ≡ some (some (Some c)) → (id : ℕ) (v : View G E L) → get_elem? s.views id ≡ some v → IsWithin i (history c) v
    pub seen_away : (i : ℕ) → i < length tags → (a : SomeoneHas i s.views) → (id : ℕ) (v : View G E L) → get_elem? s.views id ≡ some v → IsWithin i a.2 v
    -- 6. there is one first seat, and it has counted the seats out rightly
    pub one_first : OneFirst s.views
    -- 7. the views together account for FLAG and QUEUED
    pub accounts : (i : ℕ) → i < length tags → IsAccounted i (slice_index s.words i) s.views
