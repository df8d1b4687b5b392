use Rattle.ask_board.proofs.RowsLemmas.{actor_within, place_within, walked}
use Rattle.ask_board.proofs.ViewLemmas.{knows_new, knows_others}
use Rattle.ask_board.proofs.BoardLemmas.{has_own, own_cell, still_of, stays_by, set_known, set_is, set_back, set_stays}
use Rattle.ask_board.proofs.board.AskBoard.set.Goals as goal

pub at_mut-notes-requires-2 : goal.at_mut-notes-requires-2
at_mut-notes-requires-2 c =
    let own = has_own c.args.self.now c.args.view.now c.args.ask c.requires.of_board c.requires.exists in
    record { within = actor_within c.args.view.now.notes c.args.ask own _ c.at_mut-notes.ensures.item }

pub at_mut-note-requires : goal.at_mut-note-requires
at_mut-note-requires c =
    let own = has_own c.args.self.now c.args.view.now c.args.ask c.requires.of_board c.requires.exists in
    record { within = place_within c.args.view.now.notes c.args.ask own _ _ c.at_mut-notes.ensures.item c.at_mut-notes-2.ensures.item }

pub set_as-requires : goal.set_as-requires
set_as-requires c =
    let own = has_own c.args.self.now c.args.view.now c.args.ask c.requires.of_board c.requires.exists in
    let s = walked c.args.view.now.notes c.args.ask own _ _ _ c.at_mut-notes.ensures.item c.at_mut-notes-2.ensures.item c.at_mut-note.ensures.item in
    own_cell s c.args.self.now c.requires.of_board c.cell-cell.result.now c.cell-cell.ensures.cell

pub returns : goal.returns
returns c =
    let own = has_own c.args.self.now c.args.view.now c.args.ask c.requires.of_board c.requires.exists in
    let s = walked c.args.view.now.notes c.args.ask own _ _ _ c.at_mut-notes.ensures.item c.at_mut-notes-2.ensures.item c.at_mut-note.ensures.item in
    let new = c.set_as.new.note in
    record {
      of_board = still_of s c.args.self.now c.requires.of_board new c.set_as.ensures.cell;
      known = rw (knows_new s new) (set_known c.at_mut-note.result.now.known new.known c.set_as.ensures.known);
      set = rw (knows_new s new) (set_is c.set_as.result c.args.value _ _ c.set_as.ensures.value);
      back = set_back c.set_as.result c.args.value c.at_mut-note.result.now.known new.known c.set_as.ensures.value;
      stays = stays_by s new (set_stays c.at_mut-note.result.now.known new.known c.set_as.ensures.known);
      others = knows_others s new;
    }
