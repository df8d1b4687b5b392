use Rattle.std.proofs.Common.{sym, ◌∙◌, arith}
use Rattle.std.proofs.lemmas.Result.{err_from_is_err_and}
use Rattle.script_grammar.specs.ScriptReading.{atom_read}
use Rattle.script_tokens.specs.declared.token.Mark.TheVariants as m
use Rattle.script_faults.specs.Steps.{atom_after}
use Rattle.script_faults.proofs.GuardLemmas.{noted_group, noted_not}
use Rattle.script_grammar.proofs.WalkLemmas.{noted_behind, noted_separated, noting_begun, noting_ends, noting_goes_on, noting_stops}
use Rattle.script_faults.proofs.guard.+atoms.Goals as goal

pub note_not-returns-clause-gives : goal.note_not-returns-clause-gives
note_not-returns-clause-gives t c = noted_not (atom_read c.args.depth) _ c.args.tokens.now c.mark_at.new.tokens c.note_atom.new.tokens c.in_ok-mark_at.ensures.gives c.in_ok-note_atom.ensures.gives

pub note_group-returns-clause-gives : goal.note_group-returns-clause-gives
note_group-returns-clause-gives t c =
    noted_group (atom_read c.args.depth) _ _ c.args.tokens.now c.mark_at.new.tokens c.note_atoms.new.tokens c.mark_at-2.new.tokens c.in_ok-mark_at.ensures.gives c.in_ok-note_atoms.ensures.gives c.in_ok-mark_at-2.ensures.gives

pub note_atoms-returns-clause-gives : goal.note_atoms-returns-clause-gives
note_atoms-returns-clause-gives t c =
    noted_separated atom_after (atom_read c.args.depth) m.Or _ c.args.tokens.now c.note_atom.new.tokens c.note_further_atoms.new.tokens c.in_ok-note_atom.ensures.gives c.in_ok-note_further_atoms.ensures.gives

pub note_further_atom-returns-clause-gives : goal.note_further_atom-returns-clause-gives
note_further_atom-returns-clause-gives t c =
    noted_behind atom_after (atom_read c.args.depth) m.Or _ c.args.tokens.now c.mark_at.new.tokens c.note_atom.new.tokens c.in_ok-mark_at.ensures.gives c.in_ok-note_atom.ensures.gives

pub note_further_atoms-list-init : goal.note_further_atoms-list-init
note_further_atoms-list-init t c = record { noted = noting_begun; no_longer = omega arith }

pub note_further_atoms-returns-in_err-note_further_atom-clause-gives : goal.note_further_atoms-returns-in_err-note_further_atom-clause-gives
note_further_atoms-returns-in_err-note_further_atom-clause-gives t c =
    let p = err_from_is_err_and c.from_residual.result c.from_residual.ensures.1 in
    rw (p.1, p.2) (noting_stops c.in_err-note_further_atom.field-0.0 _ (sym c.is_next.ensures ∙ c.list-test.true) c.in_err-note_further_atom.ensures.gives c.list.invariant.noted)

pub note_further_atoms-list-preserved : goal.note_further_atoms-list-preserved
note_further_atoms-list-preserved t c = record {
  noted = noting_goes_on (sym c.is_next.ensures ∙ c.list-test.true) c.in_ok-note_further_atom.ensures.gives c.in_ok-note_further_atom.ensures.shorter c.list.invariant.noted;
  no_longer = omega (arith, c.in_ok-note_further_atom.ensures.shorter, c.list.invariant.no_longer);
}

pub note_further_atoms-returns-clause-gives : goal.note_further_atoms-returns-clause-gives
note_further_atoms-returns-clause-gives t c = noting_ends (sym c.is_next.ensures ∙ c.list-test.false) c.list.invariant.noted
