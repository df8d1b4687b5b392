-- Which patterns may still be replied to, as a row of marks, one for each pattern.
use Rattle.std.specs.Prelude.{ℕ, ◌-◌, Bool, false, not, ◌&&◌, nat_le, if◌then◌else◌, unsigned_abs, List, [], ◌∷◌, ◌++◌, slice_get, slice_set}
use Rattle.std.specs.Option.{unwrap_or}
use Rattle.script_grammar.specs.declared.fault.ScriptCause.TheVariants.{BadReply}
use Rattle.script_grammar.specs.declared.tree.StatementDecl.{StatementDecl}
use Rattle.script_grammar.specs.declared.tree.StatementDecl.TheVariants as statement
use Rattle.script_faults.specs.declared.first.Fault.{Fault}
use Rattle.script_faults.specs.First.{fault_if}

-- patterns are numbered from 1
abbrev pub is_open : List Bool → ℕ → Bool
is_open marks number = nat_le 1 number && unwrap_or (slice_get marks (number - 1)) false

abbrev pub closed : List Bool → ℕ → List Bool
closed marks number = if nat_le 1 number then slice_set marks (number - 1) false else marks

abbrev pub open_fault : List Bool → StatementDecl → List Fault
open_fault marks (statement.Print place items) = []
open_fault marks (statement.Post place target kind operands) = []
open_fault marks (statement.Stop place) = []
open_fault marks (statement.Reply place number_place number operand) = fault_if (not (is_open marks (unsigned_abs number))) BadReply number_place

abbrev pub open_after : List Bool → StatementDecl → List Bool
open_after marks (statement.Print place items) = marks
open_after marks (statement.Post place target kind operands) = marks
open_after marks (statement.Stop place) = marks
open_after marks (statement.Reply place number_place number operand) = closed marks (unsigned_abs number)

-- the faults of these statements where so much is open
abbrev pub open_faults : List Bool → List StatementDecl → List Fault
open_faults marks [] = []
open_faults marks (x ∷ body) = open_fault marks x ++ open_faults (open_after marks x) body
