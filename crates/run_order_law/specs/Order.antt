-- The order of a run: its arrivals by their stamps, and then what came too late.
use Rattle.std.specs.Prelude.{◌≡◌, ℕ, ◌+◌, ◌<◌, List, [], ◌∷◌, ◌++◌, ◌==◌, Some, map, length}
use Rattle.std.specs.List.{filter, flat_map}
use Rattle.join_base.specs.declared.message.Message.{Message}
use Rattle.join_base.specs.declared.message.Source.{Source}
use Rattle.script_types.specs.declared.plan.Plan.{Plan}
use Rattle.fair_semantics.specs.declared.run.Limits.{Limits}
use Rattle.fair_semantics.specs.declared.run.Entry.{Entry}
use Rattle.fair_semantics.specs.declared.run.ActorRun.{ActorRun}
use Rattle.fair_semantics.specs.declared.run.Run.{Run}
use Rattle.fair_semantics.specs.Fair.{Sent, run_of, setting_of}
use Rattle.fair_semantics.specs.Linked.{numbers_from, rests_of, IsLinked}
use Rattle.fair_semantics.specs.StampLaw.{arrivals_of}
use Rattle.fair_semantics.specs.Schedule.{System, after_schedule, system_at_first}

-- what each actor has, beside the actor: the first of the runs is that of this actor
abbrev pub of_each : {X : Type 0} → (ℕ → ActorRun → List X) → ℕ → List ActorRun → List (ℕ × X)
of_each {X} has actor [] = []
of_each {X} has actor (own ∷ more) = map (λ (x : X). (actor, x)) (has actor own) ++ of_each has (actor + 1) more

abbrev pub entries_of_stamp : ℕ → ℕ → ActorRun → List Entry
entries_of_stamp stamp actor own = filter (λ entry. entry.stamp == stamp) own.entries

-- all arrivals, by their stamps and then by the actor: no stamp is greater than their number
abbrev pub by_stamp : List ActorRun → List (ℕ × Entry)
by_stamp runs = flat_map (λ stamp. of_each (entries_of_stamp stamp) 0 runs) (numbers_from 1 (length (arrivals_of runs)))

-- what came to an actor behind its arrivals, by its run
abbrev pub rests_to : Plan → List (List (ℕ × Message)) → Run → ℕ → ActorRun → List Sent
rests_to plan feeds run actor own = rests_of plan feeds run actor own.entries

-- the steps of a run: each is that of an actor with a message from a source
abbrev pub order_of : Plan → List (List (ℕ × Message)) → Run → List (ℕ × Source)
order_of plan feeds run =
    map (λ (arrival : ℕ × Entry). (arrival.0, arrival.1.source)) (by_stamp run.actors)
    ++ map (λ (late : ℕ × Sent). (late.0, late.1.0)) (of_each (rests_to plan feeds run) 0 run.actors)

-- the run that the actors of a system show
abbrev pub shown : Plan → Limits → List (List (ℕ × Message)) → System → Run
shown plan limits feeds system = record {
  version = 2;
  limits = limits;
  feeds = length feeds;
  actors = map (λ actor. run_of (setting_of plan actor limits).rules (system.state actor)) (numbers_from 0 (length plan.actors));
}

-- nothing waits for an actor of the plan, and the system shows the run
pub record IsEndOf (plan : Plan) (limits : Limits) (feeds : List (List (ℕ × Message))) (run : Run) (system : System) : Type 0 where
  pub none_waits : (source : Source) (actor : ℕ) → actor < length plan.actors → system.waiting source actor ≡ []
  pub shows : shown plan limits feeds system ≡ run

-- the run is that of the schedule of its order
pub record IsScheduled (plan : Plan) (limits : Limits) (feeds : List (List (ℕ × Message))) (run : Run) : Type 0 where
  pub end : System
  pub steps : after_schedule plan limits (system_at_first plan feeds) (order_of plan feeds run) ≡ Some end
  pub ends : IsEndOf plan limits feeds run end

-- each linked run with stamps is that of a schedule
abbrev pub RunsAreSchedules : Type 0
RunsAreSchedules = (plan : Plan) (limits : Limits) (feeds : List (List (ℕ × Message))) (run : Run) → IsLinked plan limits feeds run → run.version ≡ 2 → IsScheduled plan limits feeds run
