-- What a system keeps inside.
use Rattle.std.specs.Prelude.{◌≡◌, ℕ, ◌^◌, ◌<◌, ◌≤◌, List, [], length, map, slice_get, Some, vec_capacity}
use Rattle.std.specs.List.{AllByRecursion}
use Rattle.fair_semantics.specs.Fair.{setting_of}
use Rattle.script_types.specs.declared.plan.Plan.{Plan}
use Rattle.fair_semantics.specs.declared.run.Limits.{Limits}
use Rattle.schedule_law.specs.Reached.{IsReached, IsServable}
use Rattle.actor_turn.specs.Held.{Held}
use Rattle.actor_system.specs.declared.system.System.TheInside.{Inside}
use Rattle.actor_system.specs.Serving.{Serving, system_in}

abbrev pub places_in : Inside → List (List ℕ)
places_in a = map (λ row. row.items) a.places.items

abbrev pub serving_of : Inside → Serving
serving_of a = record { plan = a.plan.now; limits = a.limits; feeds = a.feeds; places = places_in a; actors = a.actors.items }

-- the actor of the plan at this place, with an outbox for each
pub record IsMember (plan : Plan) (limits : Limits) (actor : ℕ) (held : Held) : Type 0 where
  pub told : held.setting ≡ setting_of plan actor limits
  pub outboxes : length held.outbox ≡ length plan.actors
  pub lent : length held.lent ≡ length plan.actors

-- an actor for each of the plan, and the place of each in each feed
pub record AreMembers (plan : Plan) (limits : Limits) (feeds : ℕ) (places : List (List ℕ)) (helds : List Held) : Type 0 where
  pub count : length helds ≡ length plan.actors
  pub each : (actor : ℕ) (held : Held) → slice_get helds actor ≡ Some held → IsMember plan limits actor held
  pub rows : length places ≡ feeds
  pub row : AllByRecursion (λ (row : List ℕ). length row ≡ length plan.actors) places

-- what a serving keeps: it can be served, its actors are those of the plan, and some schedule leads to it
pub record IsSound (serving : Serving) : Type 0 where
  pub can : IsServable serving.plan serving.limits serving.feeds
  pub members : AreMembers serving.plan serving.limits (length serving.feeds) serving.places serving.actors
  pub reached : IsReached serving.plan serving.limits serving.feeds (system_in serving)

-- what is true of every system; it has room for the runs of its actors
pub record IsKept (a : Inside) : Type 0 where
  pub sound : IsSound (serving_of a)
  pub few : length a.plan.now.actors < 2 ^ 32
  pub none : a.runs.items ≡ []
  pub room : length a.plan.now.actors ≤ vec_capacity a.runs
