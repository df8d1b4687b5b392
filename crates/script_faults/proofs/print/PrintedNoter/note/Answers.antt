use Rattle.std.proofs.Common.{refl}
use Rattle.script_faults.proofs.PrintLemmas.{item_noted_at}
use Rattle.script_faults.proofs.print.PrintedNoter.note.Goals as goal

pub returns-clause-gives : goal.returns-clause-gives
returns-clause-gives c =
    item_noted_at c.args.self.now _ c.in_ok-place.place c.note_item.new.found c.note_item.new.tokens _ c.in_ok-place.ensures.gives refl c.in_ok-note_number.ensures.number c.note_number.ensures.found
