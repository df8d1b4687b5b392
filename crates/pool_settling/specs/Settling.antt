-- What settling claims: the feeds that the run is linked to, and what the arrivals of its actors go on from.
use Rattle.std.specs.Prelude.{◌≡◌, ℕ, ◌+◌, ◌<◌, ◌≤◌, List, ◌++◌, Some, length, map, slice_get}
use Rattle.std.specs.List.{sum_by}
use mathlib.Core.List.{IsPrefix}
use Rattle.join_base.specs.declared.message.Message.{Message}
use Rattle.join_base.specs.declared.message.Source.{Source}
use Rattle.script_types.specs.declared.plan.Plan.{Plan}
use Rattle.fair_semantics.specs.declared.run.ActorRun.{ActorRun}
use Rattle.fair_semantics.specs.declared.run.Limits.{Limits}
use Rattle.fair_semantics.specs.declared.run.Run.{Run}
use Rattle.fair_semantics.specs.Linked.{IsLinked, feed_posts}
use Rattle.run_order_law.specs.Order.{IsScheduled}
use Rattle.schedule_law.specs.Reached.{FeedsFit}
use Rattle.cell_links.specs.declared.feed_links.FeedLinks.{FeedLinks}
use Rattle.cell_links.specs.Ends.{poster_links, sent_to}
use Rattle.actor_cells.specs.declared.cell.Cell.{Cell}
use Rattle.actor_cells.specs.History.{bare, history_shown, noted}
use Rattle.actor_cells.specs.Lawful.{history_of}
use Rattle.pool_settling.specs.Flat.{actors_in, received_count, went_count}
use Rattle.pool_settling.specs.Work.{all_given, all_work}

-- a feed for each poster: its posts to each actor of the plan are what the poster sent there, and then those left of
-- it; and their values are in range
pub record AreFeedsWith (plan : Plan) (posters : List FeedLinks) (rest feeds : List (List (ℕ × Message))) : Type 0 where
  pub count : length feeds ≡ length posters
  pub values : FeedsFit feeds
  pub each : (k actor : ℕ) (poster : FeedLinks) → actor < length plan.actors → slice_get posters k ≡ Some poster → feed_posts actor (slice_get feeds k) ≡ sent_to (poster_links poster) actor ++ feed_posts actor (slice_get rest k)

-- the run is linked to all such feeds
abbrev pub IsLinkedToAll : Plan → Limits → List FeedLinks → List (List (ℕ × Message)) → Run → Type 0
IsLinkedToAll plan limits posters rest run = (feeds : List (List (ℕ × Message))) → AreFeedsWith plan posters rest feeds → IsLinked plan limits feeds run

-- and over each of them it is that of one schedule
abbrev pub IsScheduledOverAll : Plan → Limits → List FeedLinks → List (List (ℕ × Message)) → Run → Type 0
IsScheduledOverAll plan limits posters rest run = (feeds : List (List (ℕ × Message))) → AreFeedsWith plan posters rest feeds → IsScheduled plan limits feeds run

-- a run of each cell, in order, whose arrivals begin with the history of the cell; and over each list of such feeds
-- they do so with the stamps that they carried
pub record GoesOnFrom (plan : Plan) (posters : List FeedLinks) (rest : List (List (ℕ × Message))) (cells : List Cell) (run : Run) : Type 0 where
  pub count : length run.actors ≡ length cells
  pub arrivals : (actor : ℕ) (cell : Cell) (own : ActorRun) → slice_get cells actor ≡ Some cell → slice_get run.actors actor ≡ Some own → IsPrefix (map bare (history_of cell)) (map noted own.entries)
  pub history : (feeds : List (List (ℕ × Message))) → AreFeedsWith plan posters rest feeds → (actor : ℕ) (cell : Cell) (own : ActorRun) → slice_get cells actor ≡ Some cell → slice_get run.actors actor ≡ Some own → IsPrefix (history_of cell) (history_shown feeds run actor own)

-- how many messages the actors of a run were given: those that they recorded, and the late ones
abbrev pub given_by_run : ActorRun → ℕ
given_by_run own = length own.entries + sum_by (λ (late : Source × ℕ). late.1) own.late

abbrev pub given_in : Run → ℕ
given_in run = sum_by given_by_run run.actors

-- settling gave the actors of the cells at most what had gone over links and not come, what was left of the feeds, what
-- waited in outboxes, and 17 messages for each arrival that could still be recorded
abbrev pub TakesFew : List FeedLinks → List Cell → List (List (ℕ × Message)) → Run → Type 0
TakesFew posters cells rest run = given_in run + received_count cells ≤ all_given (actors_in cells) + went_count posters cells + sum_by length rest + all_work (actors_in cells)
