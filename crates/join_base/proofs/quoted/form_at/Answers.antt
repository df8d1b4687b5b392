use Rattle.std.proofs.Common.{◌≡◌, rules}
use Rattle.join_base.specs.Unquoted.{form_of, form_at}
use Rattle.join_base.proofs.QuotedLemmas.{front_if}
use Rattle.join_base.proofs.quoted.form_at.Goals as goal

pub returns-then-first-eq92-clause-front : goal.returns-then-first-eq92-clause-front
unfolding form_of
returns-then-first-eq92-clause-front c =
    let value : c.escape.result ≡ form_at c.args.bytes.now = search rules in
    front_if c.args.bytes.now c.escape.result value
