use Rattle.std.proofs.Common.{sym, ◌∙◌}
use Rattle.script_faults.proofs.GuardLemmas.{noted_guard, noted_no_guard}
use Rattle.script_faults.proofs.guard.note_guard.Goals as goal

pub returns-then-not-is_next-clause-gives : goal.returns-then-not-is_next-clause-gives
returns-then-not-is_next-clause-gives c = noted_no_guard c.args.variables.now c.args.found.now c.args.tokens.now (sym c.is_next.ensures ∙ c.if-not-is_next.true)

pub returns-clause-gives : goal.returns-clause-gives
returns-clause-gives c =
    noted_guard c.args.variables c.args.found.now c.note_separated.new.noter _ c.args.tokens.now c.mark_at.new.tokens c.note_separated.new.tokens (sym c.is_next.ensures ∙ c.if-not-is_next.false)
    c.in_ok-mark_at.ensures.gives c.in_ok-note_separated.ensures.gives
