use Rattle.script_plan.specs.Planned.{outline_tree}
use Rattle.script_plan.proofs.HeldLemmas.{small_rules}
use Rattle.script_plan.proofs.VisitedLemmas.{visited_actor}
use Rattle.script_plan.proofs.script.visit_actor.Goals as goal

pub visit_rules-requires : goal.visit_rules-requires
visit_rules-requires g c = record {
  small = small_rules c.args.tokens.now c.mark_at.new.tokens c.name_at.new.tokens c.mark_at-2.new.tokens _ _ c.in_ok-spelt.spelt
      c.in_ok-mark_at.ensures.gives c.in_ok-spelt.ensures.gives c.in_ok-mark_at-2.ensures.gives c.requires.small;
}

pub returns : goal.returns
returns g c =
    let v = g.V.PlanVisitor in
    visited_actor v.with_actor v.with_rule v.with_end (outline_tree c.args.script.now.outline.now) (v.taken c.args.visitor.now) (v.taken c.begin_actor.new.self) (v.taken c.visit_rules.new.visitor) (v.taken c.end_actor.new.self)
    _ _ _ c.in_ok-spelt.spelt c.in_ok-name.name c.args.tokens.now c.mark_at.new.tokens c.name_at.new.tokens c.mark_at-2.new.tokens c.visit_rules.new.tokens c.mark_at-3.new.tokens
    c.in_ok-mark_at.ensures.gives c.in_ok-spelt.ensures.gives c.in_ok-mark_at-2.ensures.gives c.in_ok-name.ensures.equal c.in_ok-begin_actor.ensures c.in_ok-visit_rules.ensures
    c.in_ok-mark_at-3.ensures.gives c.in_ok-end_actor.ensures
