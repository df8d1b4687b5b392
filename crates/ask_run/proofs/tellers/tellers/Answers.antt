use Rattle.std.proofs.Common.{arith, All, subst, sym}
use Rattle.std.proofs.lemmas.List.Elements.{All-push}
use Rattle.actor_pool.specs.Beside.{FitsOpening}
use Rattle.ask_run.specs.declared.one_board.Teller.{Teller}
use Rattle.ask_run.specs.Tellers.{FitsOn}
use Rattle.ask_run.proofs.EndLemmas.{push-length}
use Rattle.ask_run.proofs.tellers.tellers.Goals as goal

pub loop-preserved : goal.loop-preserved
loop-preserved g c =
    let Opens : Teller g.row.K.Denot → Type 0 = FitsOpening (FitsOn g.K.OneBoard.cells) in
    let more = c.in_ok-push.ensures.items in
    record {
      count = omega (arith, c.loop.invariant.count, push-length _ _ _ more);
      within = omega (arith, c.loop-test.true);
      opening = subst (All Opens) (sym more) (All-push Opens c.loop.besides.items _ c.loop.invariant.opening c.in_ok-teller.ensures.opening);
    }
