-- That the order by stamps has all arrivals, each in its place.
use Rattle.std.specs.Prelude.{◌≡◌, ◌⊎◌, ℕ, ◌<◌, ◌≤◌, List, [], ◌==◌, Option, None, Some, slice_get, if◌then◌else◌}
use Rattle.std.specs.List.{AllPairs, filter_map}
use Rattle.join_base.specs.declared.message.Message.{Message}
use Rattle.script_types.specs.declared.plan.Plan.{Plan}
use Rattle.fair_semantics.specs.declared.run.Limits.{Limits}
use Rattle.fair_semantics.specs.declared.run.Entry.{Entry}
use Rattle.fair_semantics.specs.declared.run.ActorRun.{ActorRun}
use Rattle.fair_semantics.specs.declared.run.Run.{Run}
use Rattle.fair_semantics.specs.Linked.{IsLinked}
use Rattle.run_order_law.specs.Order.{by_stamp}

abbrev pub if_to : {X : Type 0} → ℕ → (ℕ × X) → Option X
if_to actor item = if actor == item.0 then Some item.1 else None

-- those of an actor, without the actor
abbrev pub for_actor : {X : Type 0} → ℕ → List (ℕ × X) → List X
for_actor actor items = filter_map (if_to actor) items

-- the entries of an actor, where there is one
abbrev pub entries_in : Option ActorRun → List Entry
entries_in None = []
entries_in (Some own) = own.entries

-- a smaller stamp, or the same and no greater actor
abbrev pub ComesFirst : (ℕ × Entry) → (ℕ × Entry) → Type 0
ComesFirst x y = (x.1.stamp < y.1.stamp) ⊎ ((x.1.stamp ≡ y.1.stamp) × (x.0 ≤ y.0))

-- all arrivals, each once, by their stamps and then by the actor
pub record IsInOrder (runs : List ActorRun) (arrivals : List (ℕ × Entry)) : Type 0 where
  pub has_each : (actor : ℕ) → for_actor actor arrivals ≡ entries_in (slice_get runs actor)
  pub ascends : AllPairs ComesFirst arrivals

abbrev pub ArrivalsAreInOrder : Type 0
ArrivalsAreInOrder = (plan : Plan) (limits : Limits) (feeds : List (List (ℕ × Message))) (run : Run) → IsLinked plan limits feeds run → run.version ≡ 2 → IsInOrder run.actors (by_stamp run.actors)
