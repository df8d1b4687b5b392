use Rattle.ask_board.proofs.RowsLemmas.{actor_within, place_within, walked}
use Rattle.ask_board.proofs.ViewLemmas.{knows, knows_new, knows_others}
use Rattle.ask_board.proofs.BoardLemmas.{has_own, own_cell, still_of, stays_by, look_some, look_none, look_stays}
use Rattle.ask_board.proofs.board.AskBoard.look.Goals as goal

pub at_mut-notes-requires-2 : goal.at_mut-notes-requires-2
at_mut-notes-requires-2 c =
    let own = has_own c.args.self.now c.args.view.now c.args.ask c.requires.of_board c.requires.exists in
    record { within = actor_within c.args.view.now.notes c.args.ask own _ c.at_mut-notes.ensures.item }

pub at_mut-note-requires : goal.at_mut-note-requires
at_mut-note-requires c =
    let own = has_own c.args.self.now c.args.view.now c.args.ask c.requires.of_board c.requires.exists in
    record { within = place_within c.args.view.now.notes c.args.ask own _ _ c.at_mut-notes.ensures.item c.at_mut-notes-2.ensures.item }

pub get_as-requires : goal.get_as-requires
get_as-requires c =
    let own = has_own c.args.self.now c.args.view.now c.args.ask c.requires.of_board c.requires.exists in
    let s = walked c.args.view.now.notes c.args.ask own _ _ _ c.at_mut-notes.ensures.item c.at_mut-notes-2.ensures.item c.at_mut-note.ensures.item in
    own_cell s c.args.self.now c.requires.of_board c.cell-cell.result.now c.cell-cell.ensures.cell

pub returns : goal.returns
returns c =
    let own = has_own c.args.self.now c.args.view.now c.args.ask c.requires.of_board c.requires.exists in
    let s = walked c.args.view.now.notes c.args.ask own _ _ _ c.at_mut-notes.ensures.item c.at_mut-notes-2.ensures.item c.at_mut-note.ensures.item in
    let new = c.get_as.new.note in
    record {
      of_board = still_of s c.args.self.now c.requires.of_board new c.get_as.ensures.cell;
      some = rw (knows_new s new) (look_some (λ r. r.now) c.get_as.result c.at_mut-note.result.now.known new.known c.get_as.ensures.value);
      none = rw (knows s, knows_new s new) (look_none (λ r. r.now) c.get_as.result c.at_mut-note.result.now.known new.known c.get_as.ensures.value);
      stays = stays_by s new (look_stays (λ r. r.now) c.get_as.result c.at_mut-note.result.now.known new.known c.get_as.ensures.value);
      others = knows_others s new;
    }
