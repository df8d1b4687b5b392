-- What a body has to know of its statements.
use Rattle.std.specs.Prelude.{ℕ, ℤ, Bool, not, unsigned_abs, List, [], ◌∷◌, Option, None, Some}
use Rattle.join_base.specs.declared.message.Sort.{Sort}
use Rattle.script_grammar.specs.Reading.{◌&◌, ◌<$>◌, repeated}
use Rattle.script_grammar.specs.ScriptReading.{Reads, begins_item, item_read, next_is, with_first}
use Rattle.script_grammar.specs.declared.tree.ItemDecl.{ItemDecl}
use Rattle.script_grammar.specs.declared.fault.ScriptCause.TheVariants.{BadReply, StopNotLast, WrongType}
use Rattle.script_grammar.specs.declared.tree.FieldDecl.{FieldDecl}
use Rattle.script_grammar.specs.declared.tree.StatementDecl.{StatementDecl}
use Rattle.script_grammar.specs.declared.tree.StatementDecl.TheVariants as statement
use Rattle.script_faults.specs.declared.first.Fault.{Fault}
use Rattle.script_faults.specs.declared.statement.Said.{Said}
use Rattle.script_faults.specs.First.{fault, fault_if}
use Rattle.script_faults.specs.Faults.{is_same}
use Rattle.script_faults.specs.Open.{closed, is_open}

-- the items of a print
abbrev pub items_read : Reads (List ItemDecl)
items_read = with_first <$> (item_read & repeated (next_is begins_item) item_read)

abbrev pub said_of : StatementDecl → Said
said_of (statement.Print place items) = record { place = place; stop = None; reply = None }
said_of (statement.Post place target kind operands) = record { place = place; stop = None; reply = None }
said_of (statement.Stop place) = record { place = place; stop = Some place; reply = None }
said_of (statement.Reply place number_place number operand) = record { place = place; stop = None; reply = Some (number_place, number) }

-- a `stop` in front of a statement
abbrev pub stop_before : Option ℕ → List Fault
stop_before None = []
stop_before (Some place) = fault StopNotLast place ∷ []

-- a reply where so much is open
abbrev pub reply_noted : List Bool → Option (ℕ × ℤ) → List Fault
reply_noted marks None = []
reply_noted marks (Some reply) = fault_if (not (is_open marks (unsigned_abs reply.1))) BadReply reply.0

abbrev pub reply_closed : List Bool → Option (ℕ × ℤ) → List Bool
reply_closed marks None = marks
reply_closed marks (Some reply) = closed marks (unsigned_abs reply.1)

-- an operand of this type, at this place, for a field
abbrev pub type_fault : Option FieldDecl → ℕ → Sort → List Fault
type_fault None place s = []
type_fault (Some field) place s = fault_if (not (is_same field.sort s)) WrongType place
