-- What a call learns from the steps that it made.
use Rattle.std.proofs.Common.{◌≡◌, ℕ, List, ◌∷◌, sym, ap, ◌∙◌, ⊎_elim, Option, Some}
use mathlib.Core.Option.{some, none}
use lib.ListN.{get_elem?}
use Rattle.atomic_table.specs.Table.{step, rest}
use Rattle.turn_lock.specs.View.{claimed}
use Rattle.turn_lock.specs.Rule.{IsWithin, LacksBit}
use Rattle.turn_lock.specs.Kinds.{SeatState, ClaimTells, ClearTells}
use Rattle.turn_lock.proofs.Lanes.{apart}

module _ {C G E L : Type 0} (tag : C → G) (lawful : C → Type 0) (history : C → List E) (tally : C → L) where
  pub wins : (slots i : ℕ) (m : SeatState C G E L) (n : ℕ) (m' : SeatState C G E L) → ClaimTells tag lawful history tally (step slots i 2 0 none) m n m' → LacksBit 2 n
      → (c : C) × (answered : ℕ) × (m' ≡ (claimed i n answered (history c) (tally c) m.0, (i, Some c) ∷ m.1)) × lawful c × (get_elem? m.0.tags i ≡ some (tag c)) × IsWithin i (history c) m.0
  wins slots i m n m' told lacks = ⊎_elim (λ busy. absurd (apart _ busy.0 lacks)) (λ got. got.1) told.1

  -- after the clear too the cell is in the slot that the seat took last
  pub comes_out : (slots i operand : ℕ) (m : SeatState C G E L) (n : ℕ) (m' : SeatState C G E L) (k : ℕ) (m'' : SeatState C G E L) → ClaimTells tag lawful history tally (step slots i 2 0 none) m n m' → LacksBit 2 n → ClearTells (step slots i operand 0 none) m' k m''
      → (x : Option C) × (m''.1 ≡ (i, x) ∷ rest m''.1)
  comes_out slots i operand m n m' k m'' claimed_as lacks cleared_as =
      let won = wins slots i m n m' claimed_as lacks in
      let carried : m''.1 ≡ (i, Some won.0) ∷ m.1 = ap (λ (x : SeatState C G E L). x.1) cleared_as.1 ∙ ap (λ (x : SeatState C G E L). x.1) won.2 in
      (Some won.0, carried ∙ ap (λ (cs : List (ℕ × Option C)). (i, Some won.0) ∷ rest cs) (sym carried))
