use Rattle.std.proofs.Common.{List, map, ap, ◌∙◌}
use Rattle.script_names.specs.Scope.{Variable}
use Rattle.script_faults.specs.Again.{again_faults, field_variable}
use Rattle.script_faults.specs.First.{first_of}
use Rattle.script_faults.proofs.FieldLemmas.{field_noted, fields_again}
use Rattle.script_faults.proofs.declared.note_fields.Goals as goal

pub loop-field-init : goal.loop-field-init
loop-field-init c =
    ap (λ (rows : List Variable). first_of c.args.found.now (again_faults rows (map field_variable c.args.fields.now))) c.new-names.ensures
    ∙ ap (first_of c.args.found.now) (fields_again c.args.fields.now)

pub loop-field-preserved : goal.loop-field-preserved
loop-field-preserved c =
    field_noted c.args.fields.now c.loop-field.field-index c.field-item.result c.loop-field-test.true c.field-item.is c.loop-field.names c.note_field.new.names c.loop-field.found c.note_field.new.found _
    c.in_ok-note_field.ensures.found c.in_ok-note_field.ensures.bound c.loop-field.invariant
