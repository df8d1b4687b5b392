use Rattle.std.proofs.Common.{◌≡◌, ◌<◌, length, sym, ◌∙◌, rules}
use Rattle.std.proofs.lemmas.Result.{err_from_is_err_and}
use Rattle.script_grammar.proofs.DeclarationLemmas.{begins_none, begins_more, begins_other, begins_empty, begins_script, declaration_stops, read_outlines}
use Rattle.script_grammar.proofs.StatementLemmas.{declaration_shortens}
use Rattle.script_grammar.proofs.outline.outline_at.Goals as goal

pub list-init : goal.list-init
list-init c = begins_none _ c.args.tokens.now (search rules) (search rules)

pub list-smaller : goal.list-smaller
list-smaller c = declaration_shortens c.list.tokens c.in_ok-declaration_at.ensures.0 c.declaration_at.new.tokens c.in_ok-declaration_at.ensures.1

pub list-preserved : goal.list-preserved
list-preserved c =
    begins_more c.list.outline c.declaration_at.new.outline c.args.tokens.now c.list.tokens c.declaration_at.new.tokens c.in_ok-declaration_at.ensures.0 c.list.invariant
    c.in_ok-declaration_at.ensures.1 c.in_ok-declaration_at.ensures.2

pub returns-in_err-declaration_at-clause-answers : goal.returns-in_err-declaration_at-clause-answers
returns-in_err-declaration_at-clause-answers c =
    let p = err_from_is_err_and c.from_residual.result c.from_residual.ensures.1 in
    rw (p.1, p.2) (declaration_stops c.in_err-declaration_at.field-0.0 c.list.outline c.declaration_at.new.outline c.args.tokens.now c.list.tokens c.declaration_at.new.tokens
    c.list.invariant (sym c.is_next_declaration.ensures ∙ c.list-test.true) c.in_err-declaration_at.ensures)

pub returns-then-not-is_empty-clause-answers : goal.returns-then-not-is_empty-clause-answers
returns-then-not-is_empty-clause-answers c =
    begins_other c.list.outline c.args.tokens.now c.list.tokens c.list.invariant (sym c.is_next_declaration.ensures ∙ c.list-test.false) (c.is_empty.ensures.some c.if-not-is_empty.true)

pub returns-then-len-eq0-clause-answers : goal.returns-then-len-eq0-clause-answers
returns-then-len-eq0-clause-answers c =
    let none : length c.list.outline.actors ≡ 0 = search rules in
    begins_empty c.list.outline c.args.tokens.now c.list.tokens c.list.invariant (c.is_empty.ensures.none c.if-not-is_empty.false) none

pub returns-clause-answers : goal.returns-clause-answers
returns-clause-answers c =
    let some : 0 < length c.list.outline.actors = search rules in
    begins_script c.list.outline c.args.tokens.now c.list.tokens c.list.invariant (c.is_empty.ensures.none c.if-not-is_empty.false) some

pub returns-clause-outline : goal.returns-clause-outline
returns-clause-outline c =
    let some : 0 < length c.list.outline.actors = search rules in
    read_outlines c.list.outline c.args.tokens.now
    (begins_script c.list.outline c.args.tokens.now c.list.tokens c.list.invariant (c.is_empty.ensures.none c.if-not-is_empty.false) some)
