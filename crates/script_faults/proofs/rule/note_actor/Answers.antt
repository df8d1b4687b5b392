use Rattle.std.proofs.Common.{refl}
use Rattle.script_faults.specs.declared.rule.Rules.{Rules}
use Rattle.script_faults.proofs.RuleLemmas.{noted_actor}
use Rattle.script_faults.proofs.rule.note_actor.Goals as goal

pub returns-clause-gives : goal.returns-clause-gives
returns-clause-gives c =
    let start : Rules = record { messages = c.args.messages; actors = c.args.actors; number = 0; found = c.args.found.now } in
    noted_actor start c.note_repeated.new.noter _ _ _ _ c.args.tokens.now c.mark_at.new.tokens c.name_at.new.tokens c.mark_at-2.new.tokens c.note_repeated.new.tokens c.mark_at-3.new.tokens refl
    c.in_ok-mark_at.ensures.gives c.in_ok-name_at.ensures.gives c.in_ok-mark_at-2.ensures.gives c.in_ok-note_repeated.ensures.gives c.in_ok-mark_at-3.ensures.gives
