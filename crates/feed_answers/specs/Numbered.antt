-- What holds of the numbers of the arrivals of a right run.
use Rattle.std.specs.Prelude.{ℕ, List}
use Rattle.std.specs.List.{AllByRecursion}
use Rattle.join_base.specs.declared.message.Message.{Message}
use Rattle.script_types.specs.declared.plan.Plan.{Plan}
use Rattle.fair_semantics.specs.declared.run.Limits.{Limits}
use Rattle.fair_semantics.specs.declared.run.Run.{Run}
use Rattle.fair_semantics.specs.Linked.{IsLinked}
use Rattle.feed_answers.specs.Queues.{HasNumbers}

-- the arrivals of each actor have the numbers from 1 on
abbrev pub RunsAreNumbered : Type 0
RunsAreNumbered = (plan : Plan) (limits : Limits) (feeds : List (List (ℕ × Message))) (run : Run) → IsLinked plan limits feeds run → AllByRecursion HasNumbers run.actors
