use Rattle.std.proofs.Common.{sym, ◌∙◌}
use Rattle.std.proofs.lemmas.Result.{err_from_is_err_and}
use Rattle.script_plan.specs.Planned.{outline_tree}
use Rattle.script_plan.proofs.HeldLemmas.{small_actor}
use Rattle.script_grammar.proofs.WalkLemmas.{actor_stops, message_stops}
use Rattle.script_plan.proofs.VisitedLemmas.{visited_declared, visited_message}
use Rattle.script_plan.proofs.script.visit_declaration.Goals as goal

pub returns-in_err-skip_message : goal.returns-in_err-skip_message
returns-in_err-skip_message g c =
    let p = err_from_is_err_and c.from_residual.result c.from_residual.ensures.1 in
    rw (p.1, p.2) (message_stops c.in_err-skip_message.field-0.0 c.args.tokens.now c.skip_message.new.tokens (sym c.is_next.ensures ∙ c.if-is_next.true) c.in_err-skip_message.ensures.gives)

pub returns-then-is_next : goal.returns-then-is_next
returns-then-is_next g c =
    let v = g.V.PlanVisitor in
    visited_message v.with_actor v.with_rule v.with_end (outline_tree c.args.script.now.outline.now) (v.taken c.args.visitor.now) _ c.args.tokens.now c.skip_message.new.tokens
    (sym c.is_next.ensures ∙ c.if-is_next.true) c.in_ok-skip_message.ensures.gives

pub visit_actor-requires : goal.visit_actor-requires
visit_actor-requires g c = record { small = small_actor c.args.tokens.now (sym c.is_next.ensures ∙ c.if-is_next.false) c.requires.small }

pub returns-in_err-visit_actor : goal.returns-in_err-visit_actor
returns-in_err-visit_actor g c =
    let p = err_from_is_err_and c.from_residual-in_err-visit_actor.result c.from_residual-in_err-visit_actor.ensures.1 in
    rw (p.1, p.2) (actor_stops c.in_err-visit_actor.field-0.0 c.args.tokens.now c.visit_actor.new.tokens (sym c.is_next.ensures ∙ c.if-is_next.false) c.in_err-visit_actor.ensures)

pub returns : goal.returns
returns g c =
    let v = g.V.PlanVisitor in
    visited_declared v.with_actor v.with_rule v.with_end (outline_tree c.args.script.now.outline.now) (v.taken c.args.visitor.now) (v.taken c.visit_actor.new.visitor) c.args.tokens.now c.visit_actor.new.tokens
    (sym c.is_next.ensures ∙ c.if-is_next.false) c.in_ok-visit_actor.ensures
