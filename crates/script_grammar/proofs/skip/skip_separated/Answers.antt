use Rattle.std.proofs.Common.{sym, subst, ◌∙◌}
use Rattle.std.proofs.lemmas.Result.{err_from_is_err_and}
use Rattle.script_tokens.specs.declared.token.Token.{Token}
use Rattle.script_grammar.specs.Gives.{Fails}
use Rattle.script_grammar.specs.Reading.{Outcome}
use Rattle.script_grammar.proofs.PassedLemmas.{separated_is}
use Rattle.script_grammar.proofs.skip.skip_separated.Goals as goal

pub returns-in_err-skip_further-clause-gives : goal.returns-in_err-skip_further-clause-gives
returns-in_err-skip_further-clause-gives g c =
    let p = err_from_is_err_and c.from_residual-in_err-skip_further.result c.from_residual-in_err-skip_further.ensures.1 in
    rw (p.1, p.2) (subst (λ (read : Outcome Token (Unit {0})). Fails c.in_err-skip_further.field-0.0 c.skip_further.new.tokens read)
    (sym (separated_is c.args.mark g.X.Phrase.reader c.args.tokens.now c.skip.new.tokens _ c.in_ok-skip.ensures.gives)) c.in_err-skip_further.ensures.gives)

pub returns-clause-gives : goal.returns-clause-gives
returns-clause-gives g c =
    separated_is c.args.mark g.X.Phrase.reader c.args.tokens.now c.skip.new.tokens _ c.in_ok-skip.ensures.gives ∙ c.in_ok-skip_further.ensures.gives
