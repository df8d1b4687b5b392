use Rattle.std.proofs.Common.{◌≡◌, ◌∙◌, [], length, sym, ap, subst, arith}
use Rattle.ask_board.specs.Board.{HasAsk}
use Rattle.ask_board.specs.declared.view.Ask.{Ask}
use Rattle.answerer.proofs.FitLemmas.{fits_grow}
use Rattle.thread_tests.proofs.asking.an_asker_reads_the_reply_after_the_joins.Goals as goal

pub join-answered-requires-after_bounds : goal.join-answered-requires-after_bounds
join-answered-requires-after_bounds g c κs within =
    let one : length c.as_slice-read.result.now ≡ 1 = ap length c.as_slice-read.ensures.same ∙ c.in_ok-entries.ensures.one in
    let fits = fits_grow c.in_ok-answerer.answerer 0 [] c.as_slice-read.result.now (c.in_ok-answerer.ensures.fits 0) in
    let has = subst (λ (ask : Ask). HasAsk c.in_ok-board.board ask) (sym c.to_actor-ask.ensures) c.in_ok-board.ensures.first in
    ((omega arith, fits), (c.in_ok-view.ensures.of_board, has))
