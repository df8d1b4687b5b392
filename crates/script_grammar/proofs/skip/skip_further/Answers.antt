use Rattle.std.proofs.Common.{sym, ◌∙◌, arith}
use Rattle.std.proofs.lemmas.Result.{err_from_is_err_and}
use Rattle.script_grammar.proofs.PassedLoops.{passing_begun, passing_goes_on, passing_stops, passing_ends}
use Rattle.script_grammar.proofs.skip.skip_further.Goals as goal

pub list-init : goal.list-init
list-init g c = record { left = passing_begun; no_longer = omega arith }

pub returns-in_err-skip_behind_mark-clause-gives : goal.returns-in_err-skip_behind_mark-clause-gives
returns-in_err-skip_behind_mark-clause-gives g c =
    let p = err_from_is_err_and c.from_residual.result c.from_residual.ensures.1 in
    rw (p.1, p.2) (passing_stops c.in_err-skip_behind_mark.field-0.0 _ (sym c.is_next.ensures ∙ c.list-test.true) c.in_err-skip_behind_mark.ensures.gives c.list.invariant.left)

pub list-preserved : goal.list-preserved
list-preserved g c =
    record {
      left = passing_goes_on (sym c.is_next.ensures ∙ c.list-test.true) c.in_ok-skip_behind_mark.ensures.gives c.in_ok-skip_behind_mark.ensures.shorter c.list.invariant.left;
      no_longer = omega (arith, c.in_ok-skip_behind_mark.ensures.shorter, c.list.invariant.no_longer);
    }

pub returns-clause-gives : goal.returns-clause-gives
returns-clause-gives g c = passing_ends (sym c.is_next.ensures ∙ c.list-test.false) c.list.invariant.left
