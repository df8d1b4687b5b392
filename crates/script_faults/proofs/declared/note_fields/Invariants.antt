use Rattle.std.proofs.Common.{◌≡◌, drop, map}
use Rattle.script_names.specs.Scope.{field_rows}
use Rattle.script_faults.specs.Again.{again_faults, field_variable}
use Rattle.script_faults.specs.First.{first_of}
use Rattle.script_faults.specs.Faults.{own_place, twice_declared}
use Rattle.script_faults.proofs.declared.note_fields.Given as goal

-- the fields that are left tell what is still to be found
abbrev pub invariant-loop-field : goal.invariant-loop-field
invariant-loop-field l = first_of l.found (again_faults l.names (map field_variable (drop l.field-index l.fields))) ≡ first_of l.initial.found (twice_declared own_place (field_rows l.fields))
