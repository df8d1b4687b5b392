use Rattle.actor_pool.specs.Helpers.{seat_of}
use Rattle.pool_run.proofs.FinishLemmas.{few-taken, linked-sent, own-wired, scheduled-sent, seen-on}
use Rattle.std.proofs.lemmas.Result.{IfOk-weaker}
use Rattle.pool_run.proofs.finishing.finish_in.Goals as goal

pub settle-requires-clause-wired : goal.settle-requires-clause-wired
settle-requires-clause-wired g c = own-wired _ _ c.args.posters.items _ c.in_ok-cells.ensures.tags c.in_ok-cells.ensures.ends c.requires.whole.wired

pub returns-clause-linked : goal.returns-clause-linked
returns-clause-linked g c = IfOk-weaker c.settle.result _ _ (λ run. linked-sent c.args.plan.now c.args.limits c.args.posters.items _ run c.in_ok-cells.ensures.ends) c.settle.ensures.linked

pub returns-clause-scheduled : goal.returns-clause-scheduled
returns-clause-scheduled g c = IfOk-weaker c.settle.result _ _ (λ run. scheduled-sent c.args.plan.now c.args.limits c.args.posters.items _ run c.in_ok-cells.ensures.ends) c.settle.ensures.scheduled

pub returns-clause-seen : goal.returns-clause-seen
returns-clause-seen g c = IfOk-weaker c.settle.result _ _ (λ run. seen-on c.args.plan.now c.args.posters.items _ (seat_of c.args.helper) c.in_ok-cells.cells.items run c.in_ok-cells.ensures.ends c.in_ok-cells.ensures.seen) c.settle.ensures.history

pub returns-clause-few : goal.returns-clause-few
returns-clause-few g c = IfOk-weaker c.settle.result _ _ (λ run. few-taken (seat_of c.args.helper) c.args.posters.items _ c.in_ok-cells.cells.items run c.in_ok-cells.ensures.ends c.in_ok-cells.ensures.lawful c.in_ok-cells.ensures.tags c.in_ok-cells.ensures.seen) c.settle.ensures.few
