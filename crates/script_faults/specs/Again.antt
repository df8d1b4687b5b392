-- Names of a definition, or of a message's fields, that are bound more than once.
use Rattle.std.specs.Prelude.{List, [], ◌∷◌, ◌++◌}
use Rattle.std.specs.Option.{is_some}
use Rattle.script_grammar.specs.declared.fault.ScriptCause.TheVariants.{TwiceDeclared}
use Rattle.script_grammar.specs.declared.tree.FieldDecl.{FieldDecl}
use Rattle.script_names.specs.Names.{bound, item_of}
use Rattle.script_names.specs.Scope.{Variable, typed}
use Rattle.script_faults.specs.declared.first.Fault.{Fault}
use Rattle.script_faults.specs.First.{fault_if}

-- the variables whose name was bound before, where the types of these are bound so far
abbrev pub again_faults : List Variable → List Variable → List Fault
again_faults rows [] = []
again_faults rows (v ∷ vs) = fault_if (is_some (item_of v.0 rows)) TwiceDeclared v.1.place ++ again_faults (bound rows (typed v)) vs

-- a field as a variable of its type
abbrev pub field_variable : FieldDecl → Variable
field_variable field = (field.name.name, record { place = field.name.place; pattern = 0; field = 0; sort = field.sort })
