-- A script with a fault has no plan.
use Rattle.std.proofs.Common.{◌≡◌, ℕ, List}
use Rattle.std.specs.Prelude.{Err}
use Rattle.script_grammar.specs.declared.fault.ScriptCause.{ScriptCause}
use Rattle.script_grammar.specs.declared.fault.ScriptFault.{ScriptFault}
use Rattle.script_grammar.specs.declared.fault.ScriptFault.TheVariants as fault
use Rattle.script_check.specs.Script.{IsScriptFault, NoPlanAndFault, ReadsPlan}
use Rattle.fault_places.specs.declared.place.Place.{Place}
use Rattle.fault_places.specs.Places.{column_number, line_number}
use Rattle.uses.specs.Script.{IsFaultAt, IsFaultOf}

pub of_bytes : (script : List ℕ) (f : ScriptFault) → ReadsPlan script (Err f) → IsFaultOf script f
of_bytes script (fault.Bad byte cause) is = is
of_bytes script fault.NoMemory is = tt

pub is_told : (script : List ℕ) (byte : ℕ) (cause : ScriptCause) (place : Place) → NoPlanAndFault → IsScriptFault script byte cause
    → place.line ≡ line_number script byte → place.column ≡ column_number script byte → IsFaultAt script place
is_told script byte cause place both is line column = record {
  none = λ plan given. both script plan byte cause given is;
  byte = byte;
  cause = cause;
  is_fault = is;
  line = line;
  column = column;
}
