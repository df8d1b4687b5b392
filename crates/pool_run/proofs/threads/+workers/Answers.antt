use Rattle.std.proofs.Common.{rules, arith, map}
use Rattle.std.proofs.lemmas.Result.{IfOk-at_ok}
use Rattle.std.specs.List.{AllZip}
use Rattle.std.specs.Prelude.{Vec}
use Rattle.std.specs.declared.alloc.Global.{Global}
use denote.Param.{param}
use denote.Param.Send.{IsSend, IsSync, sendable}
use Rattle.std.proofs.Crossing.{crosses}
use Rattle.pool_run.specs.declared.parts.HelperBack.{HelperBack}
use Rattle.pool_run.specs.Parts.{IsBack, IsWorker, worker_helper}
use Rattle.pool_run.proofs.BackLemmas.{workers-more, workers-none}
use Rattle.pool_run.proofs.CrossLemmas.{back-send, crew-send, pool-sync}
use Rattle.pool_run.proofs.HandLemmas.{All-front, All-last}
use Rattle.pool_run.proofs.threads.+workers.Goals as goal

pub join-others-requires-send-A : goal.join-others-requires-send-A
join-others-requires-send-A g t c κs within =
    let beside : IsSend (param 3 g.row.B) = search rules in
    search (sendable, crosses, back-send) depth 40 fits 10000

pub join-others-requires-send-F : goal.join-others-requires-send-F
join-others-requires-send-F g t c κs within =
    let runtime : IsSync (param 0 g.row.R) = search rules in
    let entry : IsSync (param 1 g.row.G) = search rules in
    let source : IsSend (param 2 g.row.S) = search rules in
    let beside : IsSend (param 3 g.row.B) = search rules in
    search (sendable, crosses, crew-send, pool-sync) depth 40 fits 100000

pub join-others-requires-after_bounds : goal.join-others-requires-after_bounds
join-others-requires-after_bounds g t c κs within =
    let last = c.in-Some.ensures.items in
    let left = All-front (IsWorker c.args.pool.now g.S.TicketSource.belongs g.B.Beside.fits) _ _ _ last c.requires.parts in
    let own = All-last (IsWorker c.args.pool.now g.S.TicketSource.belongs g.B.Beside.fits) _ _ _ last c.requires.parts in
    (search (rules, sendable), search (rules, sendable))

pub returns-in_default : goal.returns-in_default
returns-in_default g t c = record { back = workers-none c.args.pool.now g.B.Beside.fits c.args.parts.items _ (omega (arith, c.in_default.ensures.cases.0, c.args.parts.ok.0)) c.new.ensures.items }

pub returns : goal.returns
returns g t c =
    let p = c.args.pool.now in
    let fits = g.B.Beside.fits in
    let left = c.pop.new.self.items in
    let before = IfOk-at_ok (λ (l : Vec (HelperBack g.row.B.Denot) Global). AllZip (IsBack p fits) (map worker_helper left) l.items) c.in_ok-back.was c.join-others.ensures.first in
    let own = IfOk-at_ok (IsBack p fits c.in-Some.part.helper) c.in_ok-own.was c.join-others.ensures.second in
    record { back = workers-more p fits c.args.parts.items left c.in-Some.part c.in_ok-back.back.items c.push.new.self.items c.in_ok-own.field-0 c.in-Some.ensures.items c.in_ok-push.ensures.items before own }
