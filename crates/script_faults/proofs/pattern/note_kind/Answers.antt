use Rattle.script_faults.specs.Faults.{count_faults, fields_among}
use Rattle.script_faults.specs.Numbered.{at_most}
use Rattle.script_faults.proofs.FirstLemmas.{first_of-then}
use Rattle.script_faults.proofs.pattern.note_kind.Goals as goal

pub returns-clause-found : goal.returns-clause-found
returns-clause-found c =
    first_of-then c.args.binding.now.found c.note_count.new.found c.note_number.new.found (count_faults (fields_among c.args.fields) c.args.kind.now c.args.count) (at_most 8 c.args.binding.now.pattern c.args.kind.now.place)
    c.note_count.ensures c.note_number.ensures.found
