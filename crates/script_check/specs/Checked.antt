-- A script whose names and types were looked at, and what its plan's visitors take.
use Rattle.std.specs.Prelude.{◌≡◌, ℕ, List, None, Result, Ok, Err}
use Rattle.script_grammar.specs.declared.fault.ScriptFault.{ScriptFault}
use Rattle.script_grammar.specs.declared.fault.ScriptFault.TheVariants.{Bad, NoMemory}
use Rattle.script_grammar.specs.declared.outline.Outline.{Outline}
use Rattle.script_reader.specs.Spells.{SpellsOutline}
use Rattle.script_types.specs.declared.plan.Plan.{Plan}
use Rattle.script_types.specs.declared.plan.Rule.{Rule}
use Rattle.script_plan.specs.Visited.{actors_taken, heads_of, without_rules}
use Rattle.script_check.specs.Script.{GivesPlan, IsFirstFault, IsScriptFault}

-- the outline is that of a script without a fault
pub record IsFaultless (bytes : List ℕ) (outline : Outline) : Type 0 where
  pub spelt : SpellsOutline bytes outline
  pub no_fault : IsFirstFault bytes None

-- the outline of a script without a fault, or its fault, unless there was no memory
abbrev pub ChecksOutline : List ℕ → Result Outline ScriptFault → Type 0
ChecksOutline bytes (Ok outline) = IsFaultless bytes outline
ChecksOutline bytes (Err (Bad place cause)) = IsScriptFault bytes place cause
ChecksOutline bytes (Err NoMemory) = Unit {0}

-- the bytes give a plan, whose names the outline has, and a visitor took all its actors
pub record HasVisited {K : Type 0} (with_actor : K → List ℕ → K) (with_rule : K → Rule → K) (with_end : K → List ℕ → K) (before now : K) (bytes : List ℕ) (outline : Outline) : Type 0 where
  pub plan : Plan
  pub gives : GivesPlan bytes plan
  pub heads_are : heads_of outline ≡ without_rules plan
  pub taken : now ≡ actors_taken with_actor with_rule with_end before plan.actors
