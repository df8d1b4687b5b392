use Rattle.row_screens.proofs.RangeLemmas.{ends_more}
use Rattle.row_screens.proofs.range.with_bound.Goals as goal

pub returns : goal.returns
returns c = λ bounds there are.
    ends_more bounds c.args.field c.args.bound c.args.ends (record { least = c.higher.result; greatest = c.lower.result }) there c.if-bound-field.false c.higher.ensures c.lower.ensures are
