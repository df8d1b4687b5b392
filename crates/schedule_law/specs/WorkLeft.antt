-- How much work is left of a system: the posts that wait, and those that the arrivals still allowed may make.
use Rattle.std.specs.Prelude.{◌≡◌, ℕ, ◌+◌, ◌-◌, ◌*◌, ◌<◌, List, Some, Contains, length}
use Rattle.std.specs.List.{sum_by}
use Rattle.join_base.specs.declared.message.Message.{Message}
use Rattle.join_base.specs.declared.message.Source.{Source}
use Rattle.script_types.specs.declared.plan.Plan.{Plan}
use Rattle.script_types.specs.Typed.{IsTyped}
use Rattle.fair_semantics.specs.declared.run.Limits.{Limits}
use Rattle.fair_semantics.specs.Linked.{numbers_from, sources}
use Rattle.fair_semantics.specs.Schedule.{System, scheduled_step}

-- how many posts wait for an actor
abbrev pub waiting_for : Plan → ℕ → System → ℕ → ℕ
waiting_for plan feeds system actor = sum_by (λ source. length (system.waiting source actor)) (sources feeds (length plan.actors))

-- how many posts wait for all actors
abbrev pub waiting_count : Plan → ℕ → System → ℕ
waiting_count plan feeds system = sum_by (waiting_for plan feeds system) (numbers_from 0 (length plan.actors))

-- how many arrivals an actor may still record
abbrev pub room_of : Limits → System → ℕ → ℕ
room_of limits system actor = limits.arrivals - length (system.state actor).entries

-- how many arrivals all actors may still record
abbrev pub arrivals_left : Plan → Limits → System → ℕ
arrivals_left plan limits system = sum_by (room_of limits system) (numbers_from 0 (length plan.actors))

-- no schedule has more steps: a step takes a post, and an arrival makes at most 16
abbrev pub work_left : Plan → Limits → ℕ → System → ℕ
work_left plan limits feeds system = waiting_count plan feeds system + 17 * arrivals_left plan limits system

-- each step with a post of a source of the run leaves less
abbrev pub StepsLeaveLess : Type 0
StepsLeaveLess = (plan : Plan) (limits : Limits) (feeds : ℕ) (system next : System) (actor : ℕ) (source : Source) → IsTyped plan → actor < length plan.actors → Contains (sources feeds (length plan.actors)) source
    → scheduled_step plan limits system (actor, source) ≡ Some next → work_left plan limits feeds next < work_left plan limits feeds system

-- no schedule that starts with these feeds has more steps: a feed's post is for one actor at the most
abbrev pub most_work : Plan → Limits → List (List (ℕ × Message)) → ℕ
most_work plan limits feeds = length plan.actors * (sum_by length feeds + 17 * limits.arrivals)
