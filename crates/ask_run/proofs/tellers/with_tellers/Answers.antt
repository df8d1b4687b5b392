use Rattle.std.proofs.Common.{arith, All, subst, sym}
use Rattle.std.proofs.lemmas.List.Elements.{All-push}
use Rattle.pool_run.specs.Running.{IsReady}
use Rattle.ask_run.proofs.EndLemmas.{All-front, All-last, push-length}
use Rattle.ask_run.specs.Tellers.{FitsOn}
use Rattle.ask_run.proofs.tellers.with_tellers.Goals as goal

pub loop-source-preserved : goal.loop-source-preserved
loop-source-preserved g c =
    let before = c.loop-source.invariant in
    let belongs = g.S.TicketSource.belongs in
    let Ready = IsReady belongs (FitsOn g.K.OneBoard.cells) c.args.actors in
    let Belongs : g.row.S.Denot → Type 0 = λ source. belongs source c.args.actors in
    let last = c.in-Some.ensures.items in
    let more = c.in_ok-push.ensures.items in
    record {
      few = omega (arith, before.few, push-length _ _ _ last, push-length _ _ _ more);
      belong = All-front Belongs _ _ c.in-Some.source last before.belong;
      ready = subst (All Ready) (sym more) (All-push Ready c.loop-source.workers.items _ before.ready record {
        source = All-last Belongs _ _ c.in-Some.source last before.belong;
        opening = c.in_ok-teller.ensures.opening;
      });
    }
