-- Which plan the bytes of a script come to, and the fault of those that come to none.
use Rattle.std.specs.Prelude.{◌≡◌, ◌⊎◌, ℕ, List, Option, Result, Ok, Err}
use Rattle.script_grammar.specs.declared.tree.Tree.{Tree}
use Rattle.script_grammar.specs.declared.fault.ScriptCause.{ScriptCause}
use Rattle.script_grammar.specs.declared.fault.ScriptFault.{ScriptFault}
use Rattle.script_grammar.specs.declared.fault.ScriptFault.TheVariants.{Bad, NoMemory}
use Rattle.script_reader.specs.Spells.{IsFault, Spells}
use Rattle.script_types.specs.declared.plan.Plan.{Plan}
use Rattle.script_faults.specs.declared.first.Fault.{Fault}
use Rattle.script_faults.specs.Faults.{first_fault}
use Rattle.script_check.specs.Types.{IsFaultOf, Types}

-- the bytes spell a tree without a fault, which has this plan
abbrev pub GivesPlan : List ℕ → Plan → Type 0
GivesPlan bytes plan = (tree : Tree) × Spells bytes tree × Types tree plan

-- the fault of bytes that spell no tree, or of the tree that they spell
abbrev pub IsScriptFault : List ℕ → ℕ → ScriptCause → Type 0
IsScriptFault bytes place cause = IsFault bytes place cause ⊎ ((tree : Tree) × Spells bytes tree × IsFaultOf tree place cause)

-- this is the first fault of names and types of the tree that the bytes spell, if it has any
abbrev pub IsFirstFault : List ℕ → Option Fault → Type 0
IsFirstFault bytes found = (tree : Tree) → Spells bytes tree → found ≡ first_fault tree

-- the plan of the bytes, or their fault, unless there was no memory
abbrev pub ReadsPlan : List ℕ → Result Plan ScriptFault → Type 0
ReadsPlan bytes (Ok plan) = GivesPlan bytes plan
ReadsPlan bytes (Err (Bad place cause)) = IsScriptFault bytes place cause
ReadsPlan bytes (Err NoMemory) = Unit {0}

-- a text of the plan of the bytes
abbrev pub GivesText : (Plan → List ℕ) → List ℕ → List ℕ → Type 0
GivesText view bytes text = (plan : Plan) × GivesPlan bytes plan × (text ≡ view plan)

-- a text of the plan of the bytes, or their fault, unless there was no memory
abbrev pub ReadsText : (Plan → List ℕ) → List ℕ → Result (List ℕ) ScriptFault → Type 0
ReadsText view bytes (Ok text) = GivesText view bytes text
ReadsText view bytes (Err (Bad place cause)) = IsScriptFault bytes place cause
ReadsText view bytes (Err NoMemory) = Unit {0}

-- a script has one plan at the most, and none where it has a fault, of which it has one at the most
abbrev pub OneScriptPlan : Type 0
OneScriptPlan = (bytes : List ℕ) (plan other : Plan) → GivesPlan bytes plan → GivesPlan bytes other → plan ≡ other

abbrev pub NoPlanAndFault : Type 0
NoPlanAndFault = (bytes : List ℕ) (plan : Plan) (place : ℕ) (cause : ScriptCause) → GivesPlan bytes plan → IsScriptFault bytes place cause → ⊥

abbrev pub OneScriptFault : Type 0
OneScriptFault = (bytes : List ℕ) (place place' : ℕ) (cause cause' : ScriptCause) → IsScriptFault bytes place cause → IsScriptFault bytes place' cause' → (place ≡ place') × (cause ≡ cause')
