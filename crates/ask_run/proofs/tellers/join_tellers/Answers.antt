use Rattle.std.proofs.Common.{◌∙◌, ap, sym}
use Rattle.ask_board.specs.Board.{cells_of}
use Rattle.history_law.specs.History.{entries_by}
use Rattle.ask_run.proofs.EndLemmas.{All-front, All-last}
use Rattle.ask_run.specs.Tellers.{FitsOn, IsJoinable}
use Rattle.answerer.proofs.BesideLemmas.{nothing_fits}
use Rattle.ask_run.proofs.tellers.join_tellers.Goals as goal

pub loop-teller-init : goal.loop-teller-init
loop-teller-init g c = record {
  board = c.in_ok-joined.ensures.board;
  of_board = (c.in_ok-joined.ensures.fits 0).fits.of_board;
  joinable = c.requires.joinable;
  fits = λ actor setting history all. nothing_fits c.in_ok-joined.joined actor setting history c.in_ok-joined.ensures.fits;
  left = λ actor setting history all. all;
}

pub join-requires : goal.join-requires
join-requires g c =
    let cells = g.K.OneBoard.cells in
    let one = All-last (IsJoinable cells) _ _ c.in-Some.teller c.in-Some.ensures.items c.loop-teller.invariant.joinable in
    record {
      one_board = one.on ∙ sym (ap cells_of c.loop-teller.invariant.board ∙ c.requires.on);
      of_board = c.loop-teller.invariant.of_board;
      others = one.of_board;
      known = one.known;
    }

pub loop-teller-preserved : goal.loop-teller-preserved
loop-teller-preserved g c =
    let cells = g.K.OneBoard.cells in
    let before = c.loop-teller.invariant in
    let teller = c.in-Some.teller in
    let last = c.in-Some.ensures.items in
    record {
      board = c.join.ensures.board ∙ before.board;
      of_board = c.join.ensures.of_board;
      joinable = All-front (IsJoinable cells) _ _ teller last before.joinable;
      fits = λ actor setting history all.
          let one = All-last (λ t. FitsOn cells t actor setting history) _ _ teller last (before.left actor setting history all) in
          λ after prefix. c.join.ensures.fits actor (entries_by setting after) (before.fits actor setting history all after prefix) (one.fits after prefix);
      left = λ actor setting history all. All-front (λ t. FitsOn cells t actor setting history) _ _ teller last (before.left actor setting history all);
    }
