use Rattle.std.proofs.Common.{refl}
use Rattle.script_faults.proofs.PatternLemmas.{variable_noted}
use Rattle.script_faults.proofs.pattern.BindingNoter.note.Goals as goal

pub returns-clause-gives : goal.returns-clause-gives
returns-clause-gives c =
    variable_noted c.args.self.now _ _ _ c.name-name.result c.sort_of_field.result c.args.tokens.now c.variable_at.new.tokens c.name-name.ensures c.in_ok-place.ensures.gives c.sort_of_field.ensures refl refl
    c.in_ok-count.ensures c.in_ok-note_variable.ensures.bound c.in_ok-note_variable.ensures.found
