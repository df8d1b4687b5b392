use Rattle.script_faults.proofs.PatternLemmas.{noted_variables}
use Rattle.script_faults.proofs.pattern.note_variables.Goals as goal

pub returns-clause-gives : goal.returns-clause-gives
returns-clause-gives c = noted_variables c.args.binding.now c.note_listed.new.noter c.note_listed.new.tokens _ c.requires.begins c.in_ok-note_listed.ensures.gives
