use Rattle.std.proofs.Common.{◌∙◌, sym, ap, Some, List, ℕ}
use Rattle.std.specs.Prelude.{Err}
use Rattle.std.proofs.lemmas.Result.{err_from_is_err_and}
use Rattle.log_lines.proofs.QuotingLemmas.{plain_fails, plain_gives, quoted_found, quoted_none}
use Rattle.log_lines.proofs.value.printed_at.Goals as goal

pub returns-in-Ok : goal.returns-in-Ok
returns-in-Ok c =
    quoted_found 1920 c.args.text.now c.in-Ok.words _ c.in-Ok.ensures.text
    ∙ ap (λ (rest : List ℕ). Some (c.in-Ok.words, rest)) (sym c.split_at.ensures.back)

pub returns-in-Err-BadQuote : goal.returns-in-Err-BadQuote
returns-in-Err-BadQuote c = quoted_none 1920 c.args.text.now (c.read_quoted.ensures.bad.0 (c.in-Err-BadQuote.is ∙ ap (λ f. Err f) c.in-Err-BadQuote.field-0-is))

pub returns-in_err-words : goal.returns-in_err-words
returns-in_err-words c =
    let p = err_from_is_err_and c.from_residual.result c.from_residual.ensures.1 in
    rw (p.1, p.2) (plain_fails 1920 c.args.text.now c.in-Some.plain.now c.in-Some.rest.now c.in_err-words.field-0.0 c.in-Some.ensures.quoted c.in_err-words.ensures)

pub returns-in-Some : goal.returns-in-Some
returns-in-Some c =
    plain_gives 1920 c.args.text.now c.in-Some.plain.now c.in-Some.rest.now c.in_ok-words.words c.in-Some.ensures.quoted c.in_ok-words.ensures
