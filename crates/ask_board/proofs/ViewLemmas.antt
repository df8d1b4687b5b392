-- What a view knows where a note of it is replaced.
use Rattle.std.proofs.Common.{◌≡◌, ◌≢◌, ◌∙◌, List, Option, Some, None, IfSome, IsSome, refl, sym, ap}
use Rattle.std.specs.Option.{option_and_then}
use Rattle.join_base.specs.declared.message.Value.{Value}
use Rattle.once_cell.specs.declared.race.note.Note.{Note}
use Rattle.ask_board.specs.declared.view.Ask.{Ask}
use Rattle.ask_board.specs.declared.view.AskView.{AskView}
use Rattle.ask_board.specs.Rows.{Rows, item_of}
use Rattle.ask_board.specs.View.{AreOfOneBoard, known_by, known_of, noted_cell}
use Rattle.ask_board.proofs.RowsLemmas.{Stands, item_stands, set_item, set_same, set_other, set_mapped, set_itself, item_twin, item_some}

-- a view that knows an ask has a note of it
pub has_note : (view : AskView) (ask : Ask) → IsSome (known_of view ask) → IsSome (item_of view.notes ask)
has_note view ask h = by (item_of view.notes ask) refl
  where
    by : (o : Option (Note Value)) → item_of view.notes ask ≡ o → IsSome (item_of view.notes ask)
    by None e = let none : IsSome {T = Value} None = rw e at h in absurd cc
    by (Some note) e = rw e refl

-- another view of the board has a note of it too
pub has_twin : (view other : AskView) (ask : Ask) → AreOfOneBoard view other → IsSome (item_of other.notes ask) → IsSome (item_of view.notes ask)
has_twin view other ask board h =
    let (theirs, e) = item_some (item_of other.notes ask) h in
    let (own, is, _) = item_twin noted_cell noted_cell view.notes other.notes ask theirs (sym board) e in
    rw is refl

-- and the two notes are of one cell
pub cells_agree : (view other : AskView) (ask : Ask) (own theirs : Note Value) → AreOfOneBoard view other → item_of view.notes ask ≡ Some own → item_of other.notes ask ≡ Some theirs → theirs.cell ≡ own.cell
cells_agree view other ask own theirs board o t =
    let (note, is, cell) = item_twin noted_cell noted_cell view.notes other.notes ask theirs (sym board) t in
    cc

module _ {view : AskView} {ask : Ask} {actors : List (List (Note Value))} {posts : List (Note Value)} {note : Note Value} (s : Stands view.notes ask actors posts note) where
  abbrev pub with_note : Note Value → AskView
  with_note new = record { notes = set_item view.notes ask actors posts new }

  pub knows : known_of view ask ≡ note.known
  knows = ap (option_and_then known_by) (item_stands s)

  pub same_board : (new : Note Value) → new.cell ≡ note.cell → AreOfOneBoard view (with_note new)
  same_board new same = set_mapped s new noted_cell same

  pub knows_new : (new : Note Value) → known_of (with_note new) ask ≡ new.known
  knows_new new = ap (option_and_then known_by) (set_same s new)

  pub knows_others : (new : Note Value) (another : Ask) → another ≢ ask → known_of (with_note new) another ≡ known_of view another
  knows_others new another h = ap (option_and_then known_by) (set_other s new another h)

  pub unchanged : (new : Note Value) → new ≡ note → with_note new ≡ view
  unchanged new same = ap (λ (rows : Rows (Note Value)). record { notes = rows }) (ap (set_item view.notes ask actors posts) same ∙ set_itself s)

-- what two notes of one cell know
pub both_know : (own theirs : Option Value) → IfSome theirs (λ x. IfSome own (λ y. y ≡ x)) → IsSome theirs → IfSome own (λ value. theirs ≡ Some value)
both_know None theirs h is = tt
both_know (Some x) None h is = absurd cc
both_know (Some x) (Some y) h is = ap Some (sym h)
