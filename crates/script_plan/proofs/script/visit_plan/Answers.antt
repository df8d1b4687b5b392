use Rattle.std.proofs.lemmas.Result.{err_from_is_err_and}
use Rattle.script_grammar.specs.ScriptReading.{script_read}
use Rattle.script_plan.proofs.HeldLemmas.{small_declarations}
use Rattle.script_plan.proofs.VisitedLemmas.{few, script_stops, visited_script}
use Rattle.script_plan.proofs.script.visit_plan.Goals as goal

pub new-requires : goal.new-requires
new-requires g c =
    let sizes = few c.args.outline.now (script_read c.args.tokens.now) c.requires.outline c.requires.small in record { messages = sizes.0; actors = sizes.1 }

pub visit_declarations-requires : goal.visit_declarations-requires
visit_declarations-requires g c = record { small = small_declarations c.args.tokens.now c.requires.small }

pub returns-in_err-visit_declarations : goal.returns-in_err-visit_declarations
returns-in_err-visit_declarations g c =
    let v = g.V.PlanVisitor in
    let p = err_from_is_err_and c.from_residual-in_err-visit_declarations.result c.from_residual-in_err-visit_declarations.ensures.1 in
    rw (p.1, p.2) (script_stops v.with_actor v.with_rule v.with_end c.args.outline.now (v.taken c.args.visitor.now) (v.taken c.visit_declarations.new.visitor) c.in_err-visit_declarations.field-0.0 c.args.tokens.now
    c.visit_declarations.new.tokens c.requires.outline c.in_err-visit_declarations.ensures)

pub returns : goal.returns
returns g c =
    let v = g.V.PlanVisitor in
    visited_script v.with_actor v.with_rule v.with_end c.args.outline.now (v.taken c.args.visitor.now) (v.taken c.visit_declarations.new.visitor) c.args.tokens.now c.visit_declarations.new.tokens
    c.requires.outline (rw c.in_ok-script.ensures at c.in_ok-visit_declarations.ensures)
