use Rattle.std.proofs.Common.{sym, ◌∙◌}
use Rattle.std.proofs.lemmas.Result.{err_from_is_err_and}
use Rattle.script_grammar.proofs.StatementLemmas.{declaration_shortens}
use Rattle.script_grammar.proofs.WalkLemmas.{noting_begun, noting_ends, noting_goes_on, noting_stops}
use Rattle.script_plan.proofs.HeldLemmas.{all_hold, first_holds, others_hold}
use Rattle.script_plan.proofs.script.visit_declarations.Goals as goal

pub list-init : goal.list-init
list-init g c = record { noted = noting_begun; small = all_hold c.requires.small }

pub visit_declaration-requires : goal.visit_declaration-requires
visit_declaration-requires g c = record { small = first_holds (sym c.is_next_declaration.ensures ∙ c.list-test.true) c.list.invariant.small }

pub list-smaller : goal.list-smaller
list-smaller g c = declaration_shortens c.list.tokens c.in_ok-visit_declaration.ensures.phrase c.visit_declaration.new.tokens c.in_ok-visit_declaration.ensures.reads

pub list-preserved : goal.list-preserved
list-preserved g c =
    let is = sym c.is_next_declaration.ensures ∙ c.list-test.true in
    let noted = c.in_ok-visit_declaration.ensures in
    let shorter = declaration_shortens c.list.tokens noted.phrase c.visit_declaration.new.tokens noted.reads in
    record {
      noted = noting_goes_on is noted shorter c.list.invariant.noted;
      small = others_hold is c.list.invariant.small noted.phrase c.visit_declaration.new.tokens noted.reads shorter;
    }

pub returns-in_err-visit_declaration : goal.returns-in_err-visit_declaration
returns-in_err-visit_declaration g c =
    let p = err_from_is_err_and c.from_residual.result c.from_residual.ensures.1 in
    rw (p.1, p.2) (noting_stops c.in_err-visit_declaration.field-0.0 _ (sym c.is_next_declaration.ensures ∙ c.list-test.true) c.in_err-visit_declaration.ensures c.list.invariant.noted)

pub returns : goal.returns
returns g c = noting_ends (sym c.is_next_declaration.ensures ∙ c.list-test.false) c.list.invariant.noted
