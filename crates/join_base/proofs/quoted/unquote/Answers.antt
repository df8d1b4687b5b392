use Rattle.std.proofs.Common.{subst, sym, ◌∙◌, take, drop}
use Rattle.std.specs.Str.{IsUtf8}
use Rattle.join_base.proofs.QuotedLemmas.{same_text}
use Rattle.join_base.proofs.quoted.unquote.Goals as goal

pub returns-in-Err-clause-none : goal.returns-in-Err-clause-none
returns-in-Err-clause-none c _ text rest form =
    let same = same_text c.args.bytes.now c.args.at text rest (take c.in_ok-count.count c.read_forms.new.room) (drop c.in_ok-count.end c.args.bytes.now) form.split c.in_ok-count.ensures.forms in
    c.in-Err.ensures.cases.0 (subst IsUtf8 (same ∙ sym c.split_at-2.ensures.front) form.is_text.utf8)
