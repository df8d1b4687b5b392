use Rattle.std.proofs.Common.{◌∙◌, ap, sym}
use Rattle.std.proofs.lemmas.Option.{get_or_from_slice_get}
use Rattle.guard_eval.specs.Meaning.{recorded_message}
use Rattle.pattern_core.specs.Matches.{is_of_kind}
use Rattle.row_screens.specs.Offering.{offered}
use Rattle.match_tree.proofs.ThinLemmas.{itself_barred, kind_barred}
use Rattle.match_tree.proofs.by_value.is_wanted.Goals as goal

pub returns-then-other-pattern : goal.returns-then-other-pattern
returns-then-other-pattern c = λ e slots number. itself_barred (offered c.args.offer.now) slots c.args.pattern c.args.other number c.if-other-pattern.true

pub returns : goal.returns
returns c = λ e slots number.
    let o = offered c.args.offer.now in
    let kind = get_or_from_slice_get o.definition.patterns c.args.other c.at-kind.result.now 0 c.at-kind.ensures.item in
    kind_barred o slots c.args.pattern c.args.other number (ap (is_of_kind (recorded_message o.messages o.number)) kind ∙ sym c.has_kind.ensures ∙ e)
