-- The systems that a schedule reaches, and those at which nothing waits.
use Rattle.std.specs.Prelude.{◌≡◌, ℕ, ◌<◌, List, [], Some, length}
use Rattle.std.specs.List.{AllByRecursion}
use Rattle.join_base.specs.declared.message.Message.{Message}
use Rattle.join_base.specs.declared.message.Source.{Source}
use Rattle.script_types.specs.declared.plan.Plan.{Plan}
use Rattle.script_types.specs.Typed.{IsTyped}
use Rattle.fair_semantics.specs.declared.run.Limits.{Limits}
use Rattle.fair_semantics.specs.Fits.{IsFrom1To, ValueFits}
use Rattle.fair_semantics.specs.Linked.{IsLinked}
use Rattle.fair_semantics.specs.Schedule.{System, after_schedule, system_at_first}
use Rattle.run_fit_law.specs.FitsLaw.{LimitsFit, RulesFit}
use Rattle.run_order_law.specs.Order.{shown}

-- some steps of actors of the plan lead from the first system to this one
pub record IsReached (plan : Plan) (limits : Limits) (feeds : List (List (ℕ × Message))) (system : System) : Type 0 where
  pub pairs : List (ℕ × Source)
  pub of_actors : AllByRecursion (λ (pair : ℕ × Source). pair.0 < length plan.actors) pairs
  pub steps : after_schedule plan limits (system_at_first plan feeds) pairs ≡ Some system

-- no post waits for an actor of the plan
abbrev pub NothingWaits : Plan → System → Type 0
NothingWaits plan system = (source : Source) (actor : ℕ) → actor < length plan.actors → system.waiting source actor ≡ []

abbrev pub ValuesFit : Message → Type 0
ValuesFit message = AllByRecursion ValueFits message.fields

-- the values of each post are in their ranges
abbrev pub FeedsFit : List (List (ℕ × Message)) → Type 0
FeedsFit feeds = AllByRecursion (AllByRecursion (λ (post : ℕ × Message). ValuesFit post.1)) feeds

-- a well typed plan whose rules are in range, limits that an actor can be given, and from 1 to 16 feeds whose values
-- are in range
pub record IsServable (plan : Plan) (limits : Limits) (feeds : List (List (ℕ × Message))) : Type 0 where
  pub typed : IsTyped plan
  pub rules : (actor : ℕ) → actor < length plan.actors → RulesFit plan limits actor
  pub limited : LimitsFit limits
  pub count : IsFrom1To 16 (length feeds)
  pub values : FeedsFit feeds

-- whatever the schedule, a system at which nothing waits shows a run that is linked to the feeds
abbrev pub SchedulesAreLinked : Type 0
SchedulesAreLinked = (plan : Plan) (limits : Limits) (feeds : List (List (ℕ × Message))) (system : System) → IsServable plan limits feeds → IsReached plan limits feeds system → NothingWaits plan system → IsLinked plan limits feeds (shown plan limits feeds system)
