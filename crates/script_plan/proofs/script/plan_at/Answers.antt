use Rattle.std.proofs.lemmas.Result.{err_from_is_err_and}
use Rattle.script_grammar.specs.ScriptReading.{script_read}
use Rattle.script_plan.proofs.PlannedLemmas.{collected_is, collected_names, collected_stops}
use Rattle.script_plan.proofs.script.plan_at.Goals as goal

pub returns-in_err-visit_plan-clause-plan : goal.returns-in_err-visit_plan-clause-plan
returns-in_err-visit_plan-clause-plan c =
    let p = err_from_is_err_and c.from_residual-in_err-visit_plan.result c.from_residual-in_err-visit_plan.ensures.1 in
    rw (p.1, p.2) (collected_stops c.new-collector.result c.visit_plan.new.visitor (script_read c.args.tokens.now) c.in_err-visit_plan.field-0.0 c.in_err-visit_plan.ensures)

pub returns-clause-plan : goal.returns-clause-plan
returns-clause-plan c =
    collected_is c.args.outline.now c.in_ok-heads.heads c.new-collector.result c.visit_plan.new.visitor c.in_ok-heads.ensures.heads c.new-collector.ensures.actors c.new-collector.ensures.rules (script_read c.args.tokens.now) _
    c.requires.outline c.in_ok-visit_plan.ensures

pub returns-clause-names : goal.returns-clause-names
returns-clause-names c =
    collected_names c.args.outline.now c.in_ok-heads.heads c.new-collector.result c.visit_plan.new.visitor c.in_ok-heads.ensures.heads c.new-collector.ensures.actors c.new-collector.ensures.rules (script_read c.args.tokens.now) _
    c.requires.outline c.in_ok-visit_plan.ensures c.in_ok-heads.ensures.names
