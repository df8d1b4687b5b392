-- What each kind of atomic step tells the seat that makes it.
use Rattle.std.specs.Prelude.{◌≡◌, ◌⊎◌, ℕ, ◌+◌, ◌-◌, ◌<◌, ◌≤◌, List, [], ◌∷◌, length, slice_index, Option, Some}
use mathlib.Core.Option.{some}
use mathlib.Core.List.{IsPrefix}
use lib.ListN.{get_elem?}
use Rattle.atomic_table.specs.Table.{Me, Step}
use Rattle.turn_lock.specs.declared.view.View.{View}
use Rattle.turn_lock.specs.View.{seen_of, met_of, requests_of, flag_of, flagged, marked, unmarked, refused, claimed, cleared, released}
use Rattle.turn_lock.specs.Steps.{SetsMark, FindsMark}
use Rattle.turn_lock.specs.Rule.{HasFlag, LacksFlag, IsRunning, IsIdle, IsQueued, IsUnqueued, IsWithin}

-- a seat at one moment: its view, and the slots that it carries
abbrev pub SeatState : Type 0 → Type 0 → Type 0 → Type 0 → Type 0
SeatState C G E L = Me (Option C) (View G E L)

-- a word of 64 bits with every bit but this one
abbrev pub all_but : ℕ → ℕ
all_but mask = 18446744073709551615 - mask

-- Each kind of step tells its operand, and how the seat m became m', where n is the word that it found
module _ {C G E L : Type 0} where
  abbrev pub FlagTells : Step (Option C) → SeatState C G E L → ℕ → SeatState C G E L → Type 0
  FlagTells st m n m' = (st.first ≡ 1) × (m' ≡ (flagged st.word n m.0, m.1)) × (slice_index m'.0.flags st.word ≡ slice_index m.0.flags st.word + 1)

  abbrev pub MarkTells : Step (Option C) → SeatState C G E L → ℕ → SeatState C G E L → Type 0
  MarkTells st m n m' = (st.first ≡ 4) × (m' ≡ (marked st.word n m.0, m.1)) × ((IsQueued n × FindsMark st.word m.0 m'.0) ⊎ (IsUnqueued n × SetsMark st.word m.0 m'.0))

  abbrev pub UnmarkTells : Step (Option C) → SeatState C G E L → ℕ → SeatState C G E L → Type 0
  UnmarkTells st m n m' = (st.first ≡ all_but 4) × (m' ≡ (unmarked st.word n m.0, m.1)) × (slice_index m'.0.unmarks st.word ≡ slice_index m.0.unmarks st.word + 1)

  -- a claim finds the cell away, or gets its turn with the slot
  abbrev pub ClaimTells : (C → G) → (C → Type 0) → (C → List E) → (C → L) → Step (Option C) → SeatState C G E L → ℕ → SeatState C G E L → Type 0
  ClaimTells tag lawful history tally st m n m' =
      (st.first ≡ 2)
      × (((IsRunning n) × (m' ≡ (refused st.word n m.0, m.1)))
      ⊎ ((IsIdle n) × ((c : C) × (answered : ℕ) × (m' ≡ (claimed st.word n answered (history c) (tally c) m.0, (st.word, Some c) ∷ m.1)) × lawful c × (get_elem? m.0.tags st.word ≡ some (tag c)) × IsWithin st.word (history c) m.0)))

  abbrev pub ClearTells : Step (Option C) → SeatState C G E L → ℕ → SeatState C G E L → Type 0
  ClearTells st m n m' = (st.first ≡ all_but 1) × (m' ≡ (cleared st.word n m.0, m.1)) × (slice_index m'.0.clears st.word ≡ slice_index m.0.clears st.word + 1)

  -- the cell in the one slot that the seat carries goes home
  abbrev pub ReleaseTells : (C → List E) → (C → L) → Step (Option C) → SeatState C G E L → ℕ → SeatState C G E L → Type 0
  ReleaseTells history tally st m n m' =
      (st.first ≡ all_but 2)
      × ((c : C) → m.1 ≡ (st.word, Some c) ∷ [] → (m' ≡ (released st.word n (history c) (tally c) m.0, [])) × (seen_of m'.0 st.word ≡ history c))
      × (requests_of m'.0 st.word ≡ requests_of m.0 st.word + flag_of n) × (HasFlag n ⊎ LacksFlag n)

  -- after a join: there are tags, and where the lists met are no longer than the lists seen, they begin them
  abbrev pub SettleTells : Step (Option C) → SeatState C G E L → ℕ → SeatState C G E L → Type 0
  SettleTells st m n m' = (m' ≡ m) × (0 < length m.0.tags) × (((i : ℕ) → length (met_of m.0 i) ≤ length (seen_of m.0 i)) → (i : ℕ) → IsPrefix (met_of m.0 i) (seen_of m.0 i))
