use Rattle.std.proofs.Common.{rules, ◌≡◌, ◌∙◌, ◌+◌, true, sym, subst, arith}
use Rattle.script_types.specs.declared.plan.Plan.{Plan}
use Rattle.script_types.specs.Typed.{IsTyped}
use Rattle.actor_system.specs.Serving.{Serving}
use Rattle.actor_system.proofs.EndLemmas.{none_left, served_less, step_more, step_part}
use Rattle.actor_system.proofs.LinkLemmas.{on_err}
use Rattle.actor_system.proofs.system.System.run_to_end.Goals as goal

pub loop-turn-preserved : goal.loop-turn-preserved
loop-turn-preserved g c =
    let now : Serving = c.loop-turn.self in
    let i = c.loop-turn.invariant in
    let typed : IsTyped now.plan = subst (λ (plan : Plan). IsTyped plan) (sym i.plan) c.most_steps-turn-end.ensures.typed in
    let taken : c.in_ok-step.field-0 ≡ true = search rules in
    let served = c.in_ok-step.ensures.served in
    let less = served_less now c.step.new.self typed served (sym c.in_ok-step.ensures.taken ∙ taken) in
    record { plan = served.same_plan ∙ i.plan; limits = served.same_limits ∙ i.limits; feeds = served.same_feeds ∙ i.feeds; served = step_more c.args.self.now now c.step.new.self c.loop-turn.turn i.served served; less = omega (arith, less, i.less) }

pub returns-after-loop-turn-clause-nothing : goal.returns-after-loop-turn-clause-nothing
returns-after-loop-turn-clause-nothing g c =
    let i = c.loop-turn.invariant in
    none_left c.loop-turn.self (subst (λ (plan : Plan). IsTyped plan) (sym i.plan) c.most_steps-turn-end.ensures.typed) (omega (arith, i.less, c.most_steps-turn-end.ensures.most, c.loop-turn-test.false))

pub returns-in_err-step-clause-part : goal.returns-in_err-step-clause-part
returns-in_err-step-clause-part g c =
    on_err c.from_residual.result (step_part c.args.self.now c.loop-turn.self c.step.new.self c.loop-turn.turn c.loop-turn.invariant.served c.in_err-step.ensures.part)

pub returns-then-not-branch-clause-stepped : goal.returns-then-not-branch-clause-stepped
returns-then-not-branch-clause-stepped g c = record {
  steps = c.loop-turn.turn + 1;
  served = step_more c.args.self.now c.loop-turn.self c.step.new.self c.loop-turn.turn c.loop-turn.invariant.served c.in_ok-step.ensures.served;
}
