-- When an actor stands by what came to it and what went from it.
use Rattle.std.specs.Prelude.{◌≡◌, ◌⊎◌, ℕ, ◌+◌, ◌<◌, ◌≤◌, ◌-◌, ◌^◌, min, List, [], ◌++◌, length, take, Contains, if◌then◌else◌}
use Rattle.std.specs.List.{flat_map}
use mathlib.Core.List.{IsPrefix}
use Rattle.join_base.specs.Late.{late_count}
use Rattle.join_base.specs.declared.message.Source.{Source}
use Rattle.join_base.specs.declared.message.Stamped.{Stamped}
use Rattle.fair_semantics.specs.Step.{opening}
use Rattle.fair_semantics.specs.Fair.{after_all}
use Rattle.fair_semantics.specs.Linked.{arrived, entry_posts, given_by, messages_of, rest_of, same_source, sources, taken_from}
use Rattle.actor_turn.specs.Held.{Held, posts_for}
use Rattle.actor_cells.specs.Lawful.{IsAmong}
use Rattle.pool_settling.specs.Work.{HasSmallBodies, weight_of}

abbrev pub feed_count : Held → ℕ
feed_count held = length held.state.late.feeds

abbrev pub actor_count : Held → ℕ
actor_count held = length held.state.late.actors

abbrev pub sources_of : Held → List Source
sources_of held = sources (feed_count held) (actor_count held)

-- what the actor took from a source begins what came from there, and the others are late; its history is its arrivals,
-- each with the stamp that it carried; its state is the fair semantics of that and then the rests; and what went to a
-- target and then what waits for it is what its bodies posted there
pub record StandsBy (came : Source → List Stamped) (went : ℕ → List Stamped) (held : Held) : Type 0 where
  pub outboxes : length held.outbox ≡ actor_count held
  pub known : (source : Source) → (came source ≡ []) ⊎ IsAmong (feed_count held) (actor_count held) source
  pub in_order : (source : Source) → taken_from source held.state.entries ≡ take (length (taken_from source held.state.entries)) (messages_of (came source))
  pub late : (source : Source) → Contains (sources_of held) source → late_count held.state.late source ≡ min (length (rest_of came held.state.entries source)) (2 ^ 64 - 1)
  pub history : held.history ≡ arrived came held.state.entries
  pub fair : held.state ≡ after_all held.setting (opening (feed_count held) (actor_count held)) (given_by held.setting.sorts (sources_of held) came held.state.entries)
  pub posted : (target : ℕ) → target < actor_count held → went target ++ posts_for held.outbox target ≡ flat_map (entry_posts target) held.state.entries

-- the actor was told the same, and its history goes on from what it was
pub record HistoryGoesOn (before after : Held) : Type 0 where
  pub told : after.setting ≡ before.setting
  pub feeds : feed_count after ≡ feed_count before
  pub actors : actor_count after ≡ actor_count before
  pub history : IsPrefix before.history after.history

-- the same, where these came from the source
abbrev pub came_with : (Source → List Stamped) → Source → List Stamped → Source → List Stamped
came_with came source posts other = if same_source source other then posts else came other

-- of a source these have come, where it were those
pub record Arrives (source : Source) (those these : List Stamped) (before after : Held) : Type 0 where
  pub stands : (came : Source → List Stamped) (went : ℕ → List Stamped) → came source ≡ those → IsAmong (feed_count before) (actor_count before) source → StandsBy came went before → StandsBy (came_with came source these) went after
  pub on : HistoryGoesOn before after
  pub weight : HasSmallBodies before → weight_of after + length those ≤ weight_of before + length these
