-- The fair semantics: the fair steps of a list of messages, one after the other, and the run that a state shows.
use Rattle.std.specs.Prelude.{ℕ, List, [], ◌∷◌, Option, None, Some, slice_get, length}
use Rattle.join_base.specs.Late.{late_counts}
use Rattle.join_base.specs.declared.message.Stamped.{Stamped}
use Rattle.join_base.specs.declared.message.Source.{Source}
use Rattle.script_types.specs.declared.plan.Plan.{Plan}
use Rattle.script_types.specs.declared.plan.ActorPlan.{ActorPlan}
use Rattle.script_types.specs.declared.plan.Rule.{Rule}
use Rattle.script_types.specs.Typed.{kind_types}
use Rattle.fair_semantics.specs.declared.run.Limits.{Limits}
use Rattle.fair_semantics.specs.declared.run.ActorRun.{ActorRun}
use Rattle.pattern_core.specs.Matches.{partial_count}
use Rattle.fair_semantics.specs.Step.{State, Setting, opening, fair_step, recorded_messages, definitions_of}

-- a message with the stamp that it carries, and the source that it comes from
abbrev pub Sent : Type 0
Sent = Source × Stamped

abbrev pub after_all : Setting → State → List Sent → State
after_all setting state [] = state
after_all setting state (sent ∷ more) = after_all setting (fair_step setting state sent.0 sent.1.message sent.1.stamp).0 more

abbrev pub rules_of : Option ActorPlan → List Rule
rules_of None = []
rules_of (Some actor) = actor.rules

abbrev pub setting_of : Plan → ℕ → Limits → Setting
setting_of plan index limits = record { sorts = kind_types plan.kinds; rules = rules_of (slice_get plan.actors index); limits = limits }

-- the state of the actor after the messages, from the opening state
abbrev pub fair : Plan → ℕ → Limits → ℕ → List Sent → State
fair plan index limits feeds sent = after_all (setting_of plan index limits) (opening feeds (length plan.actors)) sent

-- the number of partial matches over all definitions
abbrev pub partials_of : List Rule → State → ℕ
partials_of rules state = partial_count (recorded_messages state.entries) state.live (definitions_of rules)

-- the run that a state shows; its live numbers stand in ascending order, since each new one is the greatest so far
abbrev pub run_of : List Rule → State → ActorRun
run_of rules state = record {
  entries = state.entries;
  late = late_counts state.late;
  ending = state.ending;
  left = state.live;
  partials = partials_of rules state;
}

abbrev pub fair_run : Plan → ℕ → Limits → ℕ → List Sent → ActorRun
fair_run plan index limits feeds sent = run_of (setting_of plan index limits).rules (fair plan index limits feeds sent)
