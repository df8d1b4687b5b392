-- Why an actor ends as spent.
use Rattle.std.specs.Prelude.{◌≡◌, ◌⊎◌, ℕ, ◌≤◌, List, [], ◌∷◌, ◌++◌, false, Some, length, max, slice_get}
use Rattle.join_base.specs.Stamps.{greatest_stamp}
use Rattle.join_base.specs.declared.message.Message.{Message}
use Rattle.script_types.specs.declared.plan.Plan.{Plan}
use Rattle.script_types.specs.Typed.{IsTyped}
use Rattle.fair_semantics.specs.declared.run.ActorRun.{ActorRun}
use Rattle.fair_semantics.specs.declared.run.Ending.TheVariants as ending
use Rattle.fair_semantics.specs.declared.run.Limits.{Limits}
use Rattle.fair_semantics.specs.declared.run.Run.{Run}
use Rattle.fair_semantics.specs.Fair.{Sent, after_all, fair, setting_of}
use Rattle.fair_semantics.specs.Linked.{IsLinked}
use Rattle.fair_semantics.specs.Step.{Setting, State, fits, latest_stamp, opening}
use Rattle.log_replay.specs.Law.{AllPostsFit}

-- what keeps an actor from taking a message: it has recorded as many arrivals as it may, the message does not fit, or
-- no stamp is left
abbrev pub MayNotTake : Setting → State → Sent → Type 0
MayNotTake setting state sent =
    (setting.limits.arrivals ≤ length state.entries) ⊎ ((fits setting.sorts sent.1.message ≡ false) ⊎ (greatest_stamp ≤ max (latest_stamp state.entries) sent.1.stamp))

-- behind some of the messages the actor still ran, and could not take the next one
pub record MeetsOne (setting : Setting) (start : State) (sent : List Sent) : Type 0 where
  pub front : List Sent
  pub next : Sent
  pub behind : List Sent
  pub parts : sent ≡ front ++ next ∷ behind
  pub runs : (after_all setting start front).ending ≡ ending.Running
  pub cause : MayNotTake setting (after_all setting start front) next

-- whatever messages an actor is given, where it ends as spent it met one that it may not take
abbrev pub SpentHasCause : Type 0
SpentHasCause = (plan : Plan) (actor : ℕ) (limits : Limits) (feeds : ℕ) (sent : List Sent) → (fair plan actor limits feeds sent).ending ≡ ending.Spent → MeetsOne (setting_of plan actor limits) (opening feeds (length plan.actors)) sent

-- it recorded as many arrivals as it may, and a further message came
pub record IsFull (limits : Limits) (own : ActorRun) : Type 0 where
  pub all : length own.entries ≡ limits.arrivals
  pub further : ¬ (own.late ≡ [])

-- in a run that is linked to feeds that fit, of a well typed plan, each spent actor is full
abbrev pub SpentIsFull : Type 0
SpentIsFull = (plan : Plan) (limits : Limits) (feeds : List (List (ℕ × Message))) (run : Run) → IsTyped plan → AllPostsFit plan feeds → IsLinked plan limits feeds run
    → (actor : ℕ) (own : ActorRun) → slice_get run.actors actor ≡ Some own → own.ending ≡ ending.Spent → IsFull limits own
