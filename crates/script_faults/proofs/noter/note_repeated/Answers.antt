use Rattle.std.proofs.Common.{sym, ◌∙◌, arith}
use Rattle.std.proofs.lemmas.Result.{err_from_is_err_and}
use Rattle.script_grammar.proofs.WalkLemmas.{noting_begun, noting_ends, noting_goes_on, noting_stops}
use Rattle.script_faults.proofs.noter.note_repeated.Goals as goal

pub list-init : goal.list-init
list-init g c = record { noted = noting_begun; no_longer = omega arith }

pub returns-in_err-note-clause-gives : goal.returns-in_err-note-clause-gives
returns-in_err-note-clause-gives g c =
    let p = err_from_is_err_and c.from_residual.result c.from_residual.ensures.1 in
    rw (p.1, p.2) (noting_stops c.in_err-note.field-0.0 _ (sym c.is_next.ensures ∙ c.list-test.true) c.in_err-note.ensures.gives c.list.invariant.noted)

pub list-preserved : goal.list-preserved
list-preserved g c = record {
  noted = noting_goes_on (sym c.is_next.ensures ∙ c.list-test.true) c.in_ok-note.ensures.gives c.in_ok-note.ensures.shorter c.list.invariant.noted;
  no_longer = omega (arith, c.in_ok-note.ensures.shorter, c.list.invariant.no_longer);
}

pub returns-clause-gives : goal.returns-clause-gives
returns-clause-gives g c = noting_ends (sym c.is_next.ensures ∙ c.list-test.false) c.list.invariant.noted
