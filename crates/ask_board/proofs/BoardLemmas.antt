-- The note that a view of a board has of a cell, and what it knows once the cell was looked at or set.
use Rattle.std.proofs.Common.{◌≡◌, ◌∙◌, ℕ, List, Option, Some, None, Result, Ok, Err, IfSome, IsSome, MatchOption, MatchResult, refl, sym, ap}
use Rattle.std.specs.Option.{IfNone}
use Rattle.std.specs.Result.{OnOk}
use Rattle.std.specs.declared.alloc.Global.{Global}
use Rattle.std.specs.Global.{Box}
use Rattle.join_base.specs.declared.message.Value.{Value}
use Rattle.once_cell.specs.declared.race.note.Note.{Note}
use Rattle.once_cell.specs.Once.{Agrees, cell_name}
use Rattle.ask_board.specs.declared.view.Ask.{Ask}
use Rattle.ask_board.specs.declared.view.AskView.{AskView}
use Rattle.ask_board.specs.declared.board.AskBoard.{AskBoard}
use Rattle.ask_board.specs.Rows.{item_of}
use Rattle.ask_board.specs.View.{known_of, noted_cell}
use Rattle.ask_board.specs.Board.{HasAsk, IsViewOf, StaysKnown}
use Rattle.ask_board.proofs.RowsLemmas.{Stands, item_stands, item_twin, item_some}
use Rattle.ask_board.proofs.ViewLemmas.{with_note, knows, knows_new, same_board}

pub has_own : (board : AskBoard) (view : AskView) (ask : Ask) → IsViewOf board view → HasAsk board ask → IsSome (item_of view.notes ask)
has_own board view ask of has =
    let (cell, e) = item_some (item_of board.cells ask) has in
    let (note, is, _) = item_twin noted_cell cell_name view.notes board.cells ask cell of e in
    rw is refl

module _ {view : AskView} {ask : Ask} {actors : List (List (Note Value))} {posts : List (Note Value)} {note : Note Value} (s : Stands view.notes ask actors posts note) where
  pub own_cell : (board : AskBoard) → IsViewOf board view → (cell : Global × ℕ) → item_of board.cells ask ≡ Some cell → note.cell ≡ cell_name cell
  own_cell board of cell e =
      let (own, is, same) = item_twin noted_cell cell_name view.notes board.cells ask cell of e in
      let stands = item_stands s in
      let here : own ≡ note = cc in
      ap noted_cell (sym here) ∙ same

  pub still_of : (board : AskBoard) → IsViewOf board view → (new : Note Value) → new.cell ≡ note.cell → IsViewOf board (with_note s new)
  still_of board of new same = same_board s new same ∙ of

  pub stays_by : (new : Note Value) → StaysKnown note.known new.known → StaysKnown (known_of view ask) (known_of (with_note s new) ask)
  stays_by new h = rw (knows s, knows_new s new) h

-- ---- a look at the cell

-- what a look says, where X is what is seen
abbrev pub Looks : {X : Type 0} → (X → Value) → Option X → Option Value → Option Value → Type 0
Looks now result before after = MatchOption result ((before ≡ None) × (after ≡ None)) (λ r. (after ≡ Some (now r)) × Agrees before (now r))

pub look_some : {X : Type 0} (now : X → Value) (result : Option X) (before after : Option Value) → Looks now result before after → IfSome result (λ r. after ≡ Some (now r))
look_some now None before after h = tt
look_some now (Some r) before after h = h.0

pub look_none : {X : Type 0} (now : X → Value) (result : Option X) (before after : Option Value) → Looks now result before after → IfNone result ((before ≡ None) × (after ≡ None))
look_none now None before after h = h
look_none now (Some r) before after h = tt

stays_at : (before after : Option Value) (value : Value) → after ≡ Some value → Agrees before value → StaysKnown before after
stays_at None after value is h = tt
stays_at (Some old) after value is h = is ∙ ap Some (sym h)

pub look_stays : {X : Type 0} (now : X → Value) (result : Option X) (before after : Option Value) → Looks now result before after → StaysKnown before after
look_stays now None before after h = rw h.0 tt
look_stays now (Some r) before after h = stays_at before after (now r) h.0 h.1

-- ---- the cell is set

abbrev pub IsKnown : Option Value → Option Value → Type 0
IsKnown before after = (x : Value) × (after ≡ Some x) × Agrees before x

pub set_known : (before after : Option Value) → IsKnown before after → IsSome after
set_known before after h = rw h.1 refl

pub set_stays : (before after : Option Value) → IsKnown before after → StaysKnown before after
set_stays before after h = stays_at before after h.0 h.1 h.2

-- what setting says
abbrev pub Sets : Result (Unit {0}) (Box Value) → Box Value → Option Value → Option Value → Type 0
Sets result value before after = MatchResult result (λ _. (after ≡ Some value.value) × (before ≡ None)) (λ b. b.value ≡ value.value)

pub set_is : (result : Result (Unit {0}) (Box Value)) (value : Box Value) (before after : Option Value) → Sets result value before after → OnOk result (after ≡ Some value.value)
set_is (Ok done) value before after h = h.0
set_is (Err back) value before after h = tt

pub set_back : (result : Result (Unit {0}) (Box Value)) (value : Box Value) (before after : Option Value) → Sets result value before after → MatchResult result (λ _. Unit {0}) (λ b. b.value ≡ value.value)
set_back (Ok done) value before after h = tt
set_back (Err back) value before after h = h
