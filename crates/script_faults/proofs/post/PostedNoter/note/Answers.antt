use Rattle.std.proofs.Common.{refl}
use Rattle.script_faults.proofs.PostLemmas.{value_noted}
use Rattle.script_faults.proofs.post.PostedNoter.note.Goals as goal

pub returns-clause-gives : goal.returns-clause-gives
returns-clause-gives c =
    value_noted c.args.self.now _ (c.in_ok-place.place, c.in_ok-place.sort) _ c.note_operand.new.found c.note_operand.new.tokens _ c.in_ok-place.ensures.gives refl refl c.in_ok-count.ensures c.field_at.ensures c.note_type.ensures
