use Rattle.std.proofs.Common.{refl}
use Rattle.script_faults.proofs.StatementLemmas.{noted_stop}
use Rattle.script_faults.proofs.statement.note_stop.Goals as goal

pub returns-clause-gives : goal.returns-clause-gives
returns-clause-gives c =
    noted_stop c.args.scope.now.messages.now.decls.now c.args.scope.now.actors.now c.args.scope.now.variables.now c.args.tokens.now c.in_ok-place.place _ _ c.mark_at.new.tokens c.mark_at-2.new.tokens c.args.found.now
    c.in_ok-place.ensures.gives c.in_ok-mark_at.ensures.gives refl
