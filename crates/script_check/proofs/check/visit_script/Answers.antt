use Rattle.script_check.proofs.CheckLemmas.{all_small, outlined, visited}
use Rattle.script_check.proofs.check.visit_script.Goals as goal

pub visit_plan-requires : goal.visit_plan-requires
visit_plan-requires g c = record {
  outline = outlined c.args.bytes.now c.args.outline.now c.requires.spelt c.in_ok-tokens.tokens c.in_ok-tokens.ensures;
  small = all_small c.args.bytes.now c.args.outline.now c.requires.spelt c.in_ok-tokens.tokens c.in_ok-tokens.ensures c.requires.no_fault;
}

pub returns-in-Ok : goal.returns-in-Ok
returns-in-Ok g c =
    visited c.args.bytes.now c.args.outline.now c.requires.spelt c.in_ok-tokens.tokens c.in_ok-tokens.ensures g.V.PlanVisitor.with_actor g.V.PlanVisitor.with_rule g.V.PlanVisitor.with_end _ _ c.requires.no_fault
    c.in-Ok.ensures
