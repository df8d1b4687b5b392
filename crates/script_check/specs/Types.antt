-- Which plan a tree has, and the fault of a tree that has none.
use Rattle.std.specs.Prelude.{◌≡◌, ℕ, [], false, Contains}
use Rattle.std.specs.List.{AllByRecursion}
use Rattle.script_grammar.specs.declared.tree.Tree.{Tree}
use Rattle.script_grammar.specs.declared.fault.ScriptCause.{ScriptCause}
use Rattle.script_types.specs.declared.plan.Plan.{Plan}
use Rattle.script_faults.specs.declared.first.Fault.{Fault}
use Rattle.script_faults.specs.First.{fault, is_before}
use Rattle.script_faults.specs.Faults.{faults_of}
use Rattle.script_plan.specs.PlanOf.{plan_of}

-- the tree breaks no rule of names and types, and the plan has its messages, actors and definitions, with each name
-- replaced by the number of its declaration
pub record Types (tree : Tree) (plan : Plan) : Type 0 where
  pub no_fault : faults_of tree ≡ []
  pub plan_is : plan ≡ plan_of tree

-- one of the faults, and no other comes before it: it is at the least place, and there the first cause
pub record IsFaultOf (tree : Tree) (place : ℕ) (cause : ScriptCause) : Type 0 where
  pub stands : Contains (faults_of tree) (fault cause place)
  pub least : AllByRecursion (λ (other : Fault). is_before other (fault cause place) ≡ false) (faults_of tree)

-- a tree has one plan at the most, and none where it has a fault, of which one is its fault
abbrev pub OnePlan : Type 0
OnePlan = (tree : Tree) (plan other : Plan) → Types tree plan → Types tree other → plan ≡ other

abbrev pub NoBoth : Type 0
NoBoth = (tree : Tree) (plan : Plan) (place : ℕ) (cause : ScriptCause) → Types tree plan → IsFaultOf tree place cause → ⊥

abbrev pub OneFault : Type 0
OneFault = (tree : Tree) (place place' : ℕ) (cause cause' : ScriptCause) → IsFaultOf tree place cause → IsFaultOf tree place' cause' → (place ≡ place') × (cause ≡ cause')
