use Rattle.std.proofs.Common.{inl, inr, sym, ◌∙◌}
use Rattle.std.proofs.lemmas.Result.{err_from_is_err_and}
use Rattle.script_grammar.specs.ScriptReading.{declaration_read}
use Rattle.script_grammar.proofs.DeclarationLemmas.{actor_of, reads_message, reads_actor, message_fails, actor_fails, fails_declares, with_message, with_actor}
use Rattle.script_grammar.proofs.outline.declaration_at.Goals as goal

pub returns-in_err-message : goal.returns-in_err-message
returns-in_err-message c =
    let p = err_from_is_err_and c.from_residual.result c.from_residual.ensures.1 in
    rw (p.1, p.2) (fails_declares c.in_err-message.field-0.0 c.args.outline.now (declaration_read c.args.tokens.now) c.message_at.new.tokens
    (message_fails c.in_err-message.field-0.0 c.args.tokens.now c.message_at.new.tokens (sym c.is_next.ensures ∙ c.if-is_next.true) c.in_err-message.ensures.gives))

pub returns-then-is_next : goal.returns-then-is_next
returns-then-is_next c = (
  inl c.in_ok-message.message,
  reads_message c.args.tokens.now c.in_ok-message.message c.message_at.new.tokens (sym c.is_next.ensures ∙ c.if-is_next.true) c.in_ok-message.ensures.gives,
  with_message c.args.outline.now c.push.new.self c.in_ok-message.message c.in_ok-push.ensures.ok,
)

pub returns-in_err-actor : goal.returns-in_err-actor
returns-in_err-actor c =
    let p = err_from_is_err_and c.from_residual-in_err-actor.result c.from_residual-in_err-actor.ensures.1 in
    rw (p.1, p.2) (fails_declares c.in_err-actor.field-0.0 c.args.outline.now (declaration_read c.args.tokens.now) c.actor_name_at.new.tokens
    (actor_fails c.in_err-actor.field-0.0 c.args.tokens.now c.actor_name_at.new.tokens (sym c.is_next.ensures ∙ c.if-is_next.false) c.in_err-actor.ensures))

pub returns : goal.returns
returns c =
    let found = actor_of c.args.tokens.now c.in_ok-actor.actor c.actor_name_at.new.tokens c.in_ok-actor.ensures in (
      inr found.0,
      reads_actor c.args.tokens.now found.0 c.actor_name_at.new.tokens (sym c.is_next.ensures ∙ c.if-is_next.false) found.1,
      with_actor c.args.outline.now c.push-2.new.self c.in_ok-actor.actor found.0 c.in_ok-push-2.ensures.ok found.2,
    )
