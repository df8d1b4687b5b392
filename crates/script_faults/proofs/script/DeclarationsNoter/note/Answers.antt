use Rattle.std.proofs.Common.{refl, sym, ◌∙◌}
use Rattle.script_faults.proofs.FindingLemmas.{actor_noted, message_noted}
use Rattle.script_faults.proofs.script.DeclarationsNoter.note.Goals as goal

pub returns-then-is_next-clause-gives : goal.returns-then-is_next-clause-gives
returns-then-is_next-clause-gives c =
    message_noted c.args.self.now _ c.args.tokens.now c.skip_message.new.tokens (sym c.is_next.ensures ∙ c.if-is_next.true) c.in_ok-skip_message.ensures.gives

pub returns-clause-gives : goal.returns-clause-gives
returns-clause-gives c =
    actor_noted c.args.self.now _ c.args.tokens.now c.note_actor.new.tokens (sym c.is_next.ensures ∙ c.if-is_next.false) c.in_ok-note_actor.ensures.gives refl refl
