-- The laws that the stamps of a linked run keep.
use Rattle.std.specs.Prelude.{◌≡◌, ℕ, ◌<◌, ◌≤◌, List, Some, length, map, slice_get}
use Rattle.std.specs.List.{flat_map}
use Rattle.std.specs.List.Sorted.{IsStrictlyIncreasing}
use Rattle.join_base.specs.declared.message.Message.{Message}
use Rattle.pattern_core.specs.Members.{IsIn}
use Rattle.script_types.specs.declared.plan.Plan.{Plan}
use Rattle.fair_semantics.specs.declared.run.Limits.{Limits}
use Rattle.fair_semantics.specs.declared.run.Entry.{Entry}
use Rattle.fair_semantics.specs.declared.run.ActorRun.{ActorRun}
use Rattle.fair_semantics.specs.declared.run.Run.{Run}
use Rattle.fair_semantics.specs.Fair.{Sent}
use Rattle.fair_semantics.specs.Linked.{arrived, posts_of, IsLinked}

-- the arrivals of all actors
abbrev pub arrivals_of : List ActorRun → List Entry
arrivals_of runs = flat_map (λ run. run.entries) runs

-- in a linked run with stamps each stamp is at most the number of all arrivals, since each smaller one is that of
-- another arrival
abbrev pub StampsAreFew : Type 0
StampsAreFew = (plan : Plan) (limits : Limits) (feeds : List (List (ℕ × Message))) (run : Run) → IsLinked plan limits feeds run → run.version ≡ 2 → (entry : Entry) → IsIn entry (arrivals_of run.actors) → entry.stamp ≤ length (arrivals_of run.actors)

-- in each actor of such a run the stamps rise
abbrev pub StampsRise : Type 0
StampsRise = (plan : Plan) (limits : Limits) (feeds : List (List (ℕ × Message))) (run : Run) → IsLinked plan limits feeds run → run.version ≡ 2 → (actor : ℕ) (own : ActorRun) → slice_get run.actors actor ≡ Some own → IsStrictlyIncreasing (map (λ entry. entry.stamp) own.entries)

-- and the stamp of an arrival is greater than the one that its message carried, which is that of the arrival whose body
-- posted it
abbrev pub StampsFollow : Type 0
StampsFollow = (plan : Plan) (limits : Limits) (feeds : List (List (ℕ × Message))) (run : Run) → IsLinked plan limits feeds run → run.version ≡ 2 → (actor : ℕ) (own : ActorRun) → slice_get run.actors actor ≡ Some own → (place : ℕ) (entry : Entry) (sent : Sent)
    → slice_get own.entries place ≡ Some entry → slice_get (arrived (λ source. posts_of feeds run.actors source actor) own.entries) place ≡ Some sent → sent.1.stamp < entry.stamp
