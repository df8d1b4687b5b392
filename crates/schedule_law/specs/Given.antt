-- Systems whose actors were each given some messages, in whatever order over the actors.
use Rattle.std.specs.Prelude.{◌≡◌, ◌⊎◌, ℕ, zero, suc, ◌≤◌, ◌<◌, List, [], ◌++◌, take, Option, None, Some, length, slice_get, if◌then◌else◌}
use Rattle.std.specs.List.{AllByRecursion, filter_map, flat_map}
use Rattle.join_base.specs.declared.message.Message.{Message}
use Rattle.join_base.specs.declared.message.Stamped.{Stamped}
use Rattle.join_base.specs.declared.message.Source.{Source}
use Rattle.join_base.specs.declared.message.Source.TheVariants.{Feed, Actor}
use Rattle.script_types.specs.declared.plan.Plan.{Plan}
use Rattle.script_types.specs.Typed.{kind_types}
use Rattle.fair_semantics.specs.declared.run.Limits.{Limits}
use Rattle.fair_semantics.specs.Fair.{Sent, fair}
use Rattle.fair_semantics.specs.Fits.{SourceFits}
use Rattle.fair_semantics.specs.Linked.{IsLinked, entry_posts, feed_posts, given_by, messages_of, same_source, sources, taken_from}
use Rattle.fair_semantics.specs.Schedule.{System, after_schedule}
use Rattle.fair_semantics.specs.Step.{State, opening}
use Rattle.run_order_law.specs.Order.{shown}
use Rattle.schedule_law.specs.Reached.{IsServable, NothingWaits}

abbrev pub if_from : Source → Sent → Option Stamped
if_from source sent = if same_source sent.0 source then Some sent.1 else None

-- what came from a source, of the messages that an actor was given
abbrev pub came_from : Source → List Sent → List Stamped
came_from source sent = filter_map (if_from source) sent

-- what a source has sent to an actor so far: a feed all
abbrev pub sent_by : List (List (ℕ × Message)) → System → Source → ℕ → List Stamped
sent_by feeds system (Feed zero) actor = []
sent_by feeds system (Feed (suc k)) actor = feed_posts actor (slice_get feeds k)
sent_by feeds system (Actor a) actor = flat_map (entry_posts actor) (system.state a).entries

-- each actor did the fair steps of what it was given by sources of the run, and what came from a source and then what
-- waits is what that source sent
pub record IsGiven (plan : Plan) (limits : Limits) (feeds : List (List (ℕ × Message))) (given : ℕ → List Sent) (system : System) : Type 0 where
  pub known : (actor : ℕ) → AllByRecursion (λ (sent : Sent). SourceFits plan (length feeds) sent.0) (given actor)
  pub none : (actor : ℕ) → length plan.actors ≤ actor → given actor ≡ []
  pub state : (actor : ℕ) → system.state actor ≡ fair plan actor limits (length feeds) (given actor)
  pub links : (source : Source) (actor : ℕ) → came_from source (given actor) ++ system.waiting source actor ≡ sent_by feeds system source actor

-- from such a system every schedule that leaves nothing waiting leads to a linked run
abbrev pub GivenIsLinked : Type 0
GivenIsLinked = (plan : Plan) (limits : Limits) (feeds : List (List (ℕ × Message))) (given : ℕ → List Sent) (system end : System) (pairs : List (ℕ × Source)) → IsServable plan limits feeds → IsGiven plan limits feeds given system
    → AllByRecursion (λ (pair : ℕ × Source). pair.0 < length plan.actors) pairs → after_schedule plan limits system pairs ≡ Some end → NothingWaits plan end → IsLinked plan limits feeds (shown plan limits feeds end)

-- ---- by what came from each source

-- what an actor took from a source begins what came from there, and its state is the fair semantics of its arrivals and
-- then of the rests
pub record IsFairOf (plan : Plan) (limits : Limits) (feeds actor : ℕ) (came : Source → List Stamped) (state : State) : Type 0 where
  pub known : (source : Source) → (came source ≡ []) ⊎ SourceFits plan feeds source
  pub in_order : (source : Source) → taken_from source state.entries ≡ take (length (taken_from source state.entries)) (messages_of (came source))
  pub is_fair : state ≡ fair plan actor limits feeds (given_by (kind_types plan.kinds) (sources feeds (length plan.actors)) came state.entries)

-- so it is of each actor of the plan, and what came from a source and then what waits is what that source sent
pub record AreFair (plan : Plan) (limits : Limits) (feeds : List (List (ℕ × Message))) (came : ℕ → Source → List Stamped) (system : System) : Type 0 where
  pub each : (actor : ℕ) → actor < length plan.actors → IsFairOf plan limits (length feeds) actor (came actor) (system.state actor)
  pub others : (actor : ℕ) → length plan.actors ≤ actor → (system.state actor ≡ opening (length feeds) (length plan.actors)) × ((source : Source) → came actor source ≡ [])
  pub links : (source : Source) (actor : ℕ) → came actor source ++ system.waiting source actor ≡ sent_by feeds system source actor

-- from such a system every schedule that leaves nothing waiting leads to a linked run
abbrev pub FairIsLinked : Type 0
FairIsLinked = (plan : Plan) (limits : Limits) (feeds : List (List (ℕ × Message))) (came : ℕ → Source → List Stamped) (system end : System) (pairs : List (ℕ × Source)) → IsServable plan limits feeds → AreFair plan limits feeds came system
    → AllByRecursion (λ (pair : ℕ × Source). pair.0 < length plan.actors) pairs → after_schedule plan limits system pairs ≡ Some end → NothingWaits plan end → IsLinked plan limits feeds (shown plan limits feeds end)
