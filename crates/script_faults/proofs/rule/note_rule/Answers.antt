use Rattle.script_faults.proofs.RuleLemmas.{noted_rule}
use Rattle.script_faults.proofs.rule.note_rule.Goals as goal

pub returns-clause-gives : goal.returns-clause-gives
returns-clause-gives c =
    noted_rule c.args.messages.now.decls.now c.args.actors.now c.in_ok-place.place _ _ _ c.in_ok-window.window _ c.args.tokens.now c.mark_at.new.tokens c.note_patterns.new.tokens c.window_at.new.tokens
    c.note_guard.new.tokens c.mark_at-2.new.tokens c.note_body.new.tokens c.mark_at-3.new.tokens c.args.found.now c.note_patterns.new.found c.note_window.new.found c.note_guard.new.found c.note_body.new.found
    c.in_ok-place.ensures.gives c.in_ok-patterns.ensures.gives c.in_ok-window.ensures.gives c.note_window.ensures c.in_ok-note_guard.ensures.gives c.in_ok-mark_at.ensures.gives c.in_ok-note_body.ensures.gives
    c.in_ok-mark_at-2.ensures.gives
