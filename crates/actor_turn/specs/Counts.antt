-- What an actor counts of its arrivals.
use Rattle.std.specs.Prelude.{ℕ, ◌-◌, ◌^◌, min, List, Bool, true, false, Option, None, Some}
use Rattle.std.specs.List.{count_by, sum_by}
use Rattle.std.specs.Option.{is_some}
use Rattle.fair_semantics.specs.declared.run.Effect.{Effect}
use Rattle.fair_semantics.specs.declared.run.Effect.TheVariants as effect
use Rattle.fair_semantics.specs.declared.run.Firing.{Firing}

abbrev pub is_post : Effect → Bool
is_post (effect.Print line) = false
is_post (effect.Post target message) = true
is_post (effect.Reply number value) = false

-- how many posts a firing made
abbrev pub post_count : Option Firing → ℕ
post_count None = 0
post_count (Some firing) = count_by is_post firing.effects

-- how many of the arrivals fired
abbrev pub fired_among : List (Option Firing) → ℕ
fired_among fired = count_by is_some fired

-- how many posts they made, which are counted to the last number of 64 bits
abbrev pub posts_among : List (Option Firing) → ℕ
posts_among fired = min (sum_by post_count fired) (2 ^ 64 - 1)
