use Rattle.std.proofs.Common.{rules, arith}
use Rattle.std.proofs.lemmas.Result.{IfOk-at_ok}
use denote.Param.{param}
use denote.Param.Send.{IsSend, IsSync, sendable}
use Rattle.std.proofs.Crossing.{crosses}
use Rattle.actor_pool.specs.declared.poster.Poster.{Poster}
use Rattle.pool_run.specs.declared.parts.HelperBack.{HelperBack}
use Rattle.pool_run.specs.Parts.{AreReturned, IsBack, IsFed, IsPart}
use Rattle.pool_run.proofs.BackLemmas.{returned-more, returned-none}
use Rattle.pool_run.proofs.CrossLemmas.{crew-send, parts-send, pool-sync, returned-send}
use Rattle.pool_run.proofs.HandLemmas.{All-front, All-last}
use Rattle.pool_run.proofs.threads.+feeds.Goals as goal

pub join-others-requires-send-A : goal.join-others-requires-send-A
join-others-requires-send-A g t c κs within =
    let beside : IsSend (param 3 g.row.B) = search rules in
    search (sendable, crosses, returned-send) depth 40 fits 10000

pub join-others-requires-send-F : goal.join-others-requires-send-F
join-others-requires-send-F g t c κs within =
    let runtime : IsSync (param 0 g.row.R) = search rules in
    let entry : IsSync (param 1 g.row.G) = search rules in
    let source : IsSend (param 2 g.row.S) = search rules in
    let beside : IsSend (param 3 g.row.B) = search rules in
    search (sendable, crosses, crew-send, parts-send, pool-sync) depth 40 fits 100000

pub join-others-requires-after_bounds : goal.join-others-requires-after_bounds
join-others-requires-after_bounds g t c κs within =
    let last = c.in-Some.ensures.items in
    let left = All-front (IsPart c.args.pool.now g.B.Beside.fits) _ _ _ last c.requires.parts in
    let own = All-last (IsPart c.args.pool.now g.B.Beside.fits) _ _ _ last c.requires.parts in
    (search (rules, sendable), search (rules, sendable))

pub returns-in_default : goal.returns-in_default
returns-in_default g t c = record { returned = returned-none c.args.pool.now g.B.Beside.fits c.args.parts.items c.args.crew.items _ (omega (arith, c.in_default.ensures.cases.0, c.args.parts.ok.0)) c.new.ensures.items (search rules) }

pub returns : goal.returns
returns g t c =
    let p = c.args.pool.now in
    let fits = g.B.Beside.fits in
    let before = IfOk-at_ok (AreReturned p fits c.pop.new.self.items c.args.crew.items) c.in_ok-back.was c.join-others.ensures.first in
    let fed = IfOk-at_ok (λ (b : Poster × HelperBack g.row.B.Denot). IsFed p c.in-Some.part b.0) c.in_ok-poster.was c.join-others.ensures.second.0 in
    let one = IfOk-at_ok (λ (b : Poster × HelperBack g.row.B.Denot). IsBack p fits c.in-Some.part.helper b.1) c.in_ok-poster.was c.join-others.ensures.second.1 in
    record {
      returned = returned-more p fits c.args.parts.items c.pop.new.self.items c.in-Some.part c.args.crew.items c.in_ok-back.back _ c.in_ok-poster.poster c.in_ok-poster.helper c.in-Some.ensures.items before fed one c.in_ok-push.ensures.items c.in_ok-push-2.ensures.items;
    }
