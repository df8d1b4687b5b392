use Rattle.std.proofs.Common.{◌∙◌, ap}
use Rattle.script_plan.proofs.script.visit_rule.Goals as goal

pub returns-clause-gives : goal.returns-clause-gives
returns-clause-gives g c =
    let noted = c.in_ok-plan.ensures.gives in
    record {
      phrase = noted.phrase;
      reads = noted.reads;
      holds = c.in_ok-take_rule.ensures ∙ ap (g.V.PlanVisitor.with_rule (g.V.PlanVisitor.taken c.args.visitor.now)) noted.holds;
    }
