use Rattle.std.proofs.Common.{refl, ap, ◌∙◌}
use Rattle.script_faults.specs.declared.pattern.Binding.{Binding}
use Rattle.script_faults.specs.Faults.{fields_of}
use Rattle.script_faults.specs.Steps.{bound_so_far}
use Rattle.script_faults.proofs.PatternLemmas.{pattern_noted}
use Rattle.script_faults.proofs.pattern.PatternsNoter.note.Goals as goal

pub returns-clause-gives : goal.returns-clause-gives
returns-clause-gives c =
    let before = c.args.self.now.binding in
    let start : Binding = record { pattern = before.pattern; fields = c.fields_of-fields.result; number = 0; variables = before.variables; found = before.found } in
    let fields = c.fields_of-fields.ensures ∙ ap (fields_of c.args.self.now.messages.now.decls.now) c.bytes.ensures.same in
    pattern_noted (bound_so_far c.args.self.now) _ start c.note_variables.new.binding c.in_ok-kind.kind _ _ c.in_ok-count.count c.args.tokens.now c.name_at.new.tokens c.mark_at.new.tokens c.note_variables.new.tokens
    c.mark_at-2.new.tokens c.in_ok-kind.ensures.gives c.in_ok-mark_at.ensures.gives fields refl refl refl c.in_ok-count.ensures.gives c.in_ok-mark_at-2.ensures.gives refl c.in_ok-note_kind.ensures.pattern
    c.note_kind.ensures.variables c.in_ok-note_kind.ensures.found
