use Rattle.script_faults.proofs.PrintLemmas.{noted_print}
use Rattle.script_faults.proofs.print.note_print.Goals as goal

pub returns-clause-gives : goal.returns-clause-gives
returns-clause-gives c =
    noted_print c.args.scope.now.messages.now.decls.now c.args.scope.now.actors.now c.args.scope.now.variables.now c.in_ok-place.place _ c.quiet.result c.args.tokens.now c.mark_at.new.tokens c.note_items.new.tokens
    c.mark_at-2.new.tokens c.args.found.now c.note_items.new.found c.in_ok-place.ensures.gives c.in_ok-note_items.ensures.gives c.in_ok-mark_at.ensures.gives c.quiet.ensures
