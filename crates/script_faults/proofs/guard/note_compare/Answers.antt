use Rattle.std.proofs.Common.{refl}
use Rattle.script_faults.proofs.GuardLemmas.{noted_compare}
use Rattle.script_faults.proofs.guard.note_compare.Goals as goal

pub returns-clause-gives : goal.returns-clause-gives
returns-clause-gives c =
    noted_compare c.args.compared.now _ c.in_ok-left.left c.in_ok-right.right c.in_ok-relation.relation c.note_operand.new.found c.note_operand-2.new.found c.note_sorts.new.found c.args.tokens.now c.note_operand.new.tokens
    c.relation_at.new.tokens c.note_operand-2.new.tokens c.in_ok-left.ensures.gives c.in_ok-relation.ensures.gives c.in_ok-right.ensures.gives c.note_sorts.ensures refl c.in_ok-note_number.ensures.number c.note_number.ensures.found
