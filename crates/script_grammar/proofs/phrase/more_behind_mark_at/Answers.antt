use Rattle.std.proofs.Common.{sym, ◌∙◌, arith}
use Rattle.std.proofs.lemmas.Result.{err_from_is_err_and}
use Rattle.script_grammar.proofs.LoopLemmas.{begun, goes_on, stops, ends}
use Rattle.script_grammar.proofs.phrase.more_behind_mark_at.Goals as goal

pub list-init : goal.list-init
list-init g c = record { left = begun; no_longer = omega arith }

pub returns-in_err-item-clause-gives : goal.returns-in_err-item-clause-gives
returns-in_err-item-clause-gives g c =
    let p = err_from_is_err_and c.from_residual.result c.from_residual.ensures.1 in
    rw (p.1, p.2) (stops c.in_err-item.field-0.0 _ (sym c.is_next.ensures ∙ c.list-test.true) c.in_err-item.ensures.gives c.list.invariant.left)

pub list-preserved : goal.list-preserved
list-preserved g c =
    record {
      left = rw c.in_ok-push.ensures.ok (goes_on (sym c.is_next.ensures ∙ c.list-test.true) c.in_ok-item.ensures.gives c.in_ok-item.ensures.shorter c.list.invariant.left);
      no_longer = omega (arith, c.in_ok-item.ensures.shorter, c.list.invariant.no_longer);
    }

pub returns-clause-gives : goal.returns-clause-gives
returns-clause-gives g c = ends (sym c.is_next.ensures ∙ c.list-test.false) c.list.invariant.left
