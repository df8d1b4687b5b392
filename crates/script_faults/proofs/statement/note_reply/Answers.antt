use Rattle.std.proofs.Common.{refl}
use Rattle.script_faults.proofs.StatementLemmas.{noted_reply}
use Rattle.script_faults.proofs.statement.note_reply.Goals as goal

pub returns-clause-gives : goal.returns-clause-gives
returns-clause-gives c =
    noted_reply c.args.scope.now.messages.now.decls.now c.args.scope.now.actors.now c.args.scope.now.variables.now c.args.tokens.now c.in_ok-place.place _ c.in_ok-number.number _ _ c.mark_at.new.tokens c.numeral_at.new.tokens
    c.note_operand.new.tokens c.mark_at-2.new.tokens c.args.found.now c.note_operand.new.found c.in_ok-place.ensures.gives c.in_ok-number.ensures.gives c.in_ok-note_operand.ensures.gives c.in_ok-mark_at.ensures.gives refl
