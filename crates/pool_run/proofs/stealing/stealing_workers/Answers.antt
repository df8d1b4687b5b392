use Rattle.std.proofs.Common.{arith, ◌≡◌, subst, sym}
use Rattle.std.specs.Prelude.{All}
use Rattle.std.proofs.lemmas.List.Elements.{All-push}
use Rattle.steal_pool.specs.declared.pass.StealPass.{StealPass}
use Rattle.steal_pool.specs.declared.plays.InOrder.{InOrder}
use Rattle.steal_pool.specs.Passes.{made_for}
use Rattle.steal_pool.proofs.RuleLemmas.{begins, admits}
use Rattle.pool_run.specs.Stealing.{OwnsDeque}
use Rattle.pool_run.proofs.HandLemmas.{All-front, All-last, push-length}
use Rattle.pool_run.proofs.stealing.stealing_workers.Goals as goal

pub deques-requires-clause-begins : goal.deques-requires-clause-begins
deques-requires-clause-begins c = begins

pub deques-requires-clause-admits : goal.deques-requires-clause-admits
deques-requires-clause-admits c = admits

pub loop-pass-preserved : goal.loop-pass-preserved
loop-pass-preserved c =
    let before = c.loop-pass.invariant in
    let last = c.in-Some.ensures.last in
    let more = c.in_ok-push.ensures.items in
    let IsMade : StealPass InOrder → Type 0 = λ pass. made_for pass ≡ c.args.actors in
    let made = All-last IsMade _ _ c.in-Some.pass last before.made in
    record {
      few = omega (arith, before.few, push-length _ _ _ last, push-length _ _ _ more);
      made = All-front IsMade _ _ c.in-Some.pass last before.made;
      own = subst (All (OwnsDeque c.args.actors)) (sym more) (All-push (OwnsDeque c.args.actors) c.loop-pass.workers.items _ before.own made);
    }
