use Rattle.std.proofs.lemmas.Result.{err_from_is_err_and}
use Rattle.log_lines.proofs.MessageLemmas.{message_fails, message_made}
use Rattle.log_lines.proofs.message.message_with.Goals as goal

pub returns : goal.returns
returns c = message_made c.args.plan.now c.args.text.now c.args.kind c.at.result.now c.as_slice.result.now c.at.ensures.item c.as_slice.ensures.same c.in_ok-fields.fields c.in_ok-fields.ensures

pub returns-in_err-fields : goal.returns-in_err-fields
returns-in_err-fields c =
    let p = err_from_is_err_and c.from_residual.result c.from_residual.ensures.1 in
    rw (p.1, p.2) (message_fails c.args.plan.now c.args.text.now c.args.kind c.at.result.now c.as_slice.result.now c.at.ensures.item c.as_slice.ensures.same c.in_err-fields.field-0.0 c.in_err-fields.ensures)
