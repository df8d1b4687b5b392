-- What a script without a plan comes to.
use Rattle.std.specs.Prelude.{◌≡◌, ℕ, List}
use Rattle.script_grammar.specs.declared.fault.ScriptCause.{ScriptCause}
use Rattle.script_grammar.specs.declared.fault.ScriptFault.{ScriptFault}
use Rattle.script_grammar.specs.declared.fault.ScriptFault.TheVariants as fault
use Rattle.script_types.specs.declared.plan.Plan.{Plan}
use Rattle.fault_places.specs.declared.place.Place.{Place}
use Rattle.fault_places.specs.Places.{column_number, line_number}
use Rattle.script_check.specs.Script.{GivesPlan, IsScriptFault}
use Rattle.uses.specs.declared.script.NoPlan.{NoPlan}
use Rattle.uses.specs.declared.script.NoPlan.TheVariants as answer

-- the script has no plan, and its fault stands at this line and character
pub record IsFaultAt (script : List ℕ) (place : Place) : Type 0 where
  pub none : (plan : Plan) → GivesPlan script plan → ⊥
  pub byte : ℕ
  pub cause : ScriptCause
  pub is_fault : IsScriptFault script byte cause
  pub line : place.line ≡ line_number script byte
  pub column : place.column ≡ column_number script byte

-- why there is no plan, or there was no memory
abbrev pub TellsFault : List ℕ → NoPlan → Type 0
TellsFault script (answer.Fault place note) = IsFaultAt script place
TellsFault script answer.NoMemory = Unit {0}

-- the fault of a script, unless there was no memory
abbrev pub IsFaultOf : List ℕ → ScriptFault → Type 0
IsFaultOf script (fault.Bad byte cause) = IsScriptFault script byte cause
IsFaultOf script fault.NoMemory = Unit {0}
