-- How many messages an actor was given, and how many more it may come to.
use Rattle.std.specs.Prelude.{◌≡◌, ℕ, ◌+◌, ◌-◌, ◌*◌, ◌≤◌, List, Some, length, slice_get}
use Rattle.std.specs.List.{AllByRecursion, sum_by}
use Rattle.join_base.specs.Late.{Late}
use Rattle.script_types.specs.declared.plan.Rule.{Rule}
use Rattle.actor_turn.specs.Held.{Held}

-- the posts that wait in outboxes, and 17 for each arrival that may still be recorded
abbrev pub work_of : Held → ℕ
work_of held = sum_by length held.outbox + 17 * (held.setting.limits.arrivals - length held.state.entries)

abbrev pub all_work : List Held → ℕ
all_work helds = sum_by work_of helds

-- all late counts together
abbrev pub late_sum : Late → ℕ
late_sum late = sum_by (λ (n : ℕ). n) late.feeds + sum_by (λ (n : ℕ). n) late.actors

-- the messages that the actor recorded, and the late ones
abbrev pub given_of : Held → ℕ
given_of held = length held.state.entries + late_sum held.state.late

abbrev pub all_given : List Held → ℕ
all_given helds = sum_by given_of helds

-- with what it may come to
abbrev pub weight_of : Held → ℕ
weight_of held = given_of held + work_of held

abbrev pub all_weight : List Held → ℕ
all_weight helds = sum_by weight_of helds

-- no body makes more than 16 posts
abbrev pub HasSmallBodies : Held → Type 0
HasSmallBodies held = AllByRecursion (λ (rule : Rule). length rule.body ≤ 16) held.setting.rules

abbrev pub HaveSmallBodies : List Held → Type 0
HaveSmallBodies helds = (actor : ℕ) (held : Held) → slice_get helds actor ≡ Some held → HasSmallBodies held
