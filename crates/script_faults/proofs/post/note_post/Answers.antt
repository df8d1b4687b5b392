use Rattle.script_faults.proofs.PostLemmas.{noted_post}
use Rattle.script_faults.proofs.post.note_post.Goals as goal

pub returns-clause-gives : goal.returns-clause-gives
returns-clause-gives c =
    let actors = c.args.scope.now.actors.now in
    noted_post c.args.scope.now.messages.now.decls.now actors c.args.scope.now.variables.now c.in_ok-place.place _ _ _ c.in_ok-target.target c.in_ok-kind.kind c.is_unknown-is_fault.result c.quiet.result
    c.args.tokens.now c.mark_at.new.tokens c.name_at.new.tokens c.name_at-2.new.tokens c.note_values.new.tokens c.mark_at-3.new.tokens c.mark_at-4.new.tokens c.mark_at-2.new.tokens
    c.args.found.now c.note_if.new.found c.note_values.new.found c.in_ok-place.ensures.gives c.in_ok-target.ensures.gives c.is_unknown-is_fault.ensures c.note_if.ensures c.in_ok-kind.ensures.gives c.in_ok-mark_at.ensures.gives
    c.in_ok-note_values.ensures.gives c.in_ok-mark_at-2.ensures.gives c.in_ok-mark_at-3.ensures.gives c.quiet.ensures
