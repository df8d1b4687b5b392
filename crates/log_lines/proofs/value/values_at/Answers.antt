use Rattle.std.proofs.Common.{◌∙◌, ap, List, ℕ, arith, length-append, [], ◌∷◌}
use Rattle.std.proofs.lemmas.Result.{err_from_is_err_and}
use Rattle.join_base.specs.declared.message.Sort.{Sort}
use Rattle.log_lines.specs.Messages.{closing, values_at}
use Rattle.log_lines.proofs.ValueLemmas.{all_read, one_more, refused, sorts_of}
use Rattle.log_lines.proofs.value.values_at.Goals as goal

pub returns : goal.returns
returns c = all_read c.args.fields.now c.loop-place.place c.loop-place.values c.loop-place.rest.now (values_at (sorts_of c.args.fields.now) c.args.text.now) (omega arith) c.loop-place.invariant.told

pub returns-in_err-value : goal.returns-in_err-value
returns-in_err-value c =
    let p = err_from_is_err_and c.from_residual.result c.from_residual.ensures.1 in
    rw (p.1, p.2)
    (refused c.args.fields.now c.loop-place.place c.index-fields-place.result c.loop-place-test.true c.index-fields-place.is c.loop-place.values c.loop-place.rest.now (values_at (sorts_of c.args.fields.now) c.args.text.now)
    c.closing-close.result c.in_err-value.field-0.0 (c.closing-close.ensures ∙ ap (λ (behind : List (List ℕ × Sort)). closing (sorts_of behind)) c.split_at.ensures.back) c.in_err-value.ensures c.loop-place.invariant.told)

pub loop-place-preserved : goal.loop-place-preserved
loop-place-preserved c = record {
  count = rw c.in_ok-append.ensures.ok (omega (arith, length-append c.loop-place.values (c.in_ok-value.value ∷ []), c.loop-place.invariant.count));
  told = rw c.in_ok-append.ensures.ok
      (one_more c.args.fields.now c.loop-place.place c.index-fields-place.result c.loop-place-test.true c.index-fields-place.is c.loop-place.values c.loop-place.rest.now (values_at (sorts_of c.args.fields.now) c.args.text.now)
      c.closing-close.result c.in_ok-value.value c.in_ok-value.more.now (c.closing-close.ensures ∙ ap (λ (behind : List (List ℕ × Sort)). closing (sorts_of behind)) c.split_at.ensures.back) c.in_ok-value.ensures c.loop-place.invariant.told);
}
