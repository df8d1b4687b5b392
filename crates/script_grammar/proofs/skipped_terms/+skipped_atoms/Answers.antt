use Rattle.std.proofs.Common.{sym, ◌∙◌, arith}
use Rattle.std.proofs.lemmas.Result.{err_from_is_err_and}
use Rattle.script_grammar.proofs.PassedLoops.{passing_begun, passing_goes_on, passing_stops, passing_ends}
use Rattle.script_grammar.proofs.skipped_terms.+skipped_atoms.Goals as goal

pub skip_further_atoms-list-init : goal.skip_further_atoms-list-init
skip_further_atoms-list-init t c = record { left = passing_begun; no_longer = omega arith }

pub skip_further_atoms-returns-in_err-skip_further_atom-clause-gives : goal.skip_further_atoms-returns-in_err-skip_further_atom-clause-gives
skip_further_atoms-returns-in_err-skip_further_atom-clause-gives t c =
    let p = err_from_is_err_and c.from_residual.result c.from_residual.ensures.1 in
    rw (p.1, p.2) (passing_stops c.in_err-skip_further_atom.field-0.0 _ (sym c.is_next.ensures ∙ c.list-test.true) c.in_err-skip_further_atom.ensures.gives c.list.invariant.left)

pub skip_further_atoms-list-preserved : goal.skip_further_atoms-list-preserved
skip_further_atoms-list-preserved t c =
    record {
      left = passing_goes_on (sym c.is_next.ensures ∙ c.list-test.true) c.in_ok-skip_further_atom.ensures.gives c.in_ok-skip_further_atom.ensures.shorter c.list.invariant.left;
      no_longer = omega (arith, c.in_ok-skip_further_atom.ensures.shorter, c.list.invariant.no_longer);
    }

pub skip_further_atoms-returns-clause-gives : goal.skip_further_atoms-returns-clause-gives
skip_further_atoms-returns-clause-gives t c = passing_ends (sym c.is_next.ensures ∙ c.list-test.false) c.list.invariant.left
