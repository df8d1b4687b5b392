-- Between two arrivals no complete match waits. So a firing takes the newest message.
use Rattle.std.specs.Prelude.{◌≡◌, ℕ, List, [], IfSome}
use Rattle.std.specs.List.{AllByRecursion}
use Rattle.pattern_core.specs.declared.definition.Definition.{Definition}
use Rattle.pattern_core.specs.Matches.{complete_matches}
use Rattle.pattern_core.specs.Members.{IsIn}
use Rattle.script_types.specs.declared.plan.Plan.{Plan}
use Rattle.script_types.specs.Typed.{IsTyped}
use Rattle.fair_semantics.specs.declared.run.Limits.{Limits}
use Rattle.fair_semantics.specs.declared.run.Entry.{Entry}
use Rattle.fair_semantics.specs.Fair.{Sent, fair, setting_of}
use Rattle.fair_semantics.specs.Step.{State, definitions_of, recorded_messages}

-- the definition has no complete match among the live messages
abbrev pub HasNoMatch : State → Definition → Type 0
HasNoMatch state definition = complete_matches (recorded_messages state.entries) state.live definition ≡ []

-- where the arrival fired, the match took its own number, which was the newest
abbrev pub TakesNewest : Entry → Type 0
TakesNewest entry = IfSome entry.firing (λ firing. IsIn entry.number firing.taken)

-- whatever messages an actor of a well typed plan is given, behind them no definition of the actor has a complete match
abbrev pub NoneWaitsBetween : Type 0
NoneWaitsBetween = (plan : Plan) (actor : ℕ) (limits : Limits) (feeds : ℕ) (sent : List Sent) → IsTyped plan
    → AllByRecursion (HasNoMatch (fair plan actor limits feeds sent)) (definitions_of (setting_of plan actor limits).rules)

-- and each firing took the newest message
abbrev pub FiringsTakeNewest : Type 0
FiringsTakeNewest = (plan : Plan) (actor : ℕ) (limits : Limits) (feeds : ℕ) (sent : List Sent) → IsTyped plan → AllByRecursion TakesNewest (fair plan actor limits feeds sent).entries
