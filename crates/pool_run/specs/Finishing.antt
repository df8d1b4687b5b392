-- What finishing a pool gives.
use Rattle.std.specs.Prelude.{◌≡◌, ℕ, ◌<◌, List, [], Some, length, map, slice_get}
use mathlib.Core.List.{IsPrefix}
use Rattle.join_base.specs.declared.message.Message.{Message}
use Rattle.script_types.specs.declared.plan.Plan.{Plan}
use Rattle.fair_semantics.specs.declared.run.ActorRun.{ActorRun}
use Rattle.fair_semantics.specs.declared.run.Limits.{Limits}
use Rattle.fair_semantics.specs.declared.run.Run.{Run}
use Rattle.fair_semantics.specs.Linked.{IsLinked, feed_posts}
use Rattle.run_order_law.specs.Order.{IsScheduled}
use Rattle.schedule_law.specs.Reached.{FeedsFit}
use Rattle.turn_lock.specs.View.{seen_of}
use Rattle.cell_links.specs.Ends.{sent_to}
use Rattle.actor_cells.specs.declared.cell.Cell.{Cell}
use Rattle.actor_cells.specs.AllLawful.{AreLawful}
use Rattle.actor_cells.specs.History.{bare, history_shown, noted}
use Rattle.actor_cells.specs.Lawful.{cell_tag}
use Rattle.pool_settling.specs.Settling.{TakesFew}
use Rattle.actor_pool.specs.declared.poster.Poster.{Poster}
use Rattle.actor_pool.specs.Helpers.{SeatView}
use Rattle.actor_pool.specs.Posters.{feed_ends, feed_links}
use Rattle.actor_pool.specs.Whole.{HoldSeen}

-- a feed for each poster: its posts to each actor of the plan are what the poster sent there; and their values are in
-- range
pub record AreSent (plan : Plan) (posters : List Poster) (feeds : List (List (ℕ × Message))) : Type 0 where
  pub count : length feeds ≡ length posters
  pub values : FeedsFit feeds
  pub each : (k actor : ℕ) (poster : Poster) → actor < length plan.actors → slice_get posters k ≡ Some poster → feed_posts actor (slice_get feeds k) ≡ sent_to (feed_links poster) actor

-- the run is linked to all such feeds
abbrev pub IsLinkedToSent : Plan → Limits → List Poster → Run → Type 0
IsLinkedToSent plan limits posters run = (feeds : List (List (ℕ × Message))) → AreSent plan posters feeds → IsLinked plan limits feeds run

-- and over each of them it is that of one schedule
abbrev pub IsScheduledOverSent : Plan → Limits → List Poster → Run → Type 0
IsScheduledOverSent plan limits posters run = (feeds : List (List (ℕ × Message))) → AreSent plan posters feeds → IsScheduled plan limits feeds run

-- the arrivals of each actor go on from what was seen of it; and over each list of such feeds they do so with the
-- stamps that they carried
pub record GoesOnFromSeen (plan : Plan) (posters : List Poster) (v : SeatView) (run : Run) : Type 0 where
  pub arrivals : (actor : ℕ) (own : ActorRun) → slice_get run.actors actor ≡ Some own → IsPrefix (map bare (seen_of v actor)) (map noted own.entries)
  pub history : (feeds : List (List (ℕ × Message))) → AreSent plan posters feeds → (actor : ℕ) (own : ActorRun) → slice_get run.actors actor ≡ Some own → IsPrefix (seen_of v actor) (history_shown feeds run actor own)

-- there are lawful cells, one with each tag of the view, in order, that go on from what was seen. Beyond what these
-- were given, the actors of the run were given at most what had gone over links and not come, what waited in outboxes,
-- and 17 messages for each arrival that could still be recorded
pub record FinishesFew (v : SeatView) (posters : List Poster) (run : Run) : Type 0 where
  pub cells : List Cell
  pub lawful : AreLawful cells
  pub tags : map cell_tag cells ≡ v.tags
  pub seen : HoldSeen v cells
  pub few : TakesFew (map feed_ends posters) cells [] run
