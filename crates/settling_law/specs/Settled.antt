-- Settled cells: whose they are, what went over their links and what arrived, and the run that they show.
use Rattle.std.specs.Prelude.{◌≡◌, ℕ, zero, suc, ◌<◌, List, [], Option, None, Some, length, map, slice_get}
use Rattle.join_base.specs.declared.message.Message.{Message}
use Rattle.join_base.specs.declared.message.Stamped.{Stamped}
use Rattle.join_base.specs.declared.message.Source.{Source}
use Rattle.join_base.specs.declared.message.Source.TheVariants.{Feed, Actor}
use Rattle.script_types.specs.declared.plan.Plan.{Plan}
use Rattle.fair_semantics.specs.declared.run.ActorRun.{ActorRun}
use Rattle.fair_semantics.specs.declared.run.Limits.{Limits}
use Rattle.fair_semantics.specs.declared.run.Run.{Run}
use Rattle.fair_semantics.specs.Fair.{run_of}
use Rattle.fair_semantics.specs.Linked.{IsLinked, feed_posts}
use Rattle.pattern_core.specs.Members.{IsIn}
use Rattle.schedule_law.specs.Reached.{IsServable}
use Rattle.post_ring.specs.Links.{identity_in, identity_out, received, sent}
use Rattle.cell_links.specs.declared.ends.Inward.{Inward}
use Rattle.cell_links.specs.declared.ends.Outward.{Outward}
use Rattle.actor_turn.specs.Held.{posts_for}
use Rattle.cell_links.specs.declared.feed_links.FeedLinks.{FeedLinks}
use Rattle.cell_links.specs.Ends.{poster_links, poster_tag, sent_to}
use Rattle.actor_cells.specs.declared.cell.Cell.{Cell}
use Rattle.actor_cells.specs.Prepared.{AreWired}
use Rattle.actor_cells.specs.Tags.{IsTagOf}
use Rattle.actor_cells.specs.Lawful.{IsLawful, cell_tag, held_in, received_from, state_in}

-- a lawful cell of each actor of the plan, in order
pub record AreOwn (plan : Plan) (limits : Limits) (feeds : ℕ) (cells : List Cell) : Type 0 where
  pub count : length cells ≡ length plan.actors
  pub tags : (actor : ℕ) (cell : Cell) → slice_get cells actor ≡ Some cell → IsTagOf plan limits feeds actor (cell_tag cell)
  pub lawful : (actor : ℕ) (cell : Cell) → slice_get cells actor ≡ Some cell → IsLawful cell

-- ---- over links

abbrev pub poster_sent : Option FeedLinks → ℕ → List Stamped
poster_sent None actor = []
poster_sent (Some poster) actor = sent_to (poster_links poster) actor

abbrev pub cell_sent : Option Cell → ℕ → List Stamped
cell_sent None actor = []
cell_sent (Some cell) actor = sent_to cell.outward.items actor

-- what went over the link from a source to an actor: feeds are counted from 1
abbrev pub went : List FeedLinks → List Cell → Source → ℕ → List Stamped
went posters cells (Feed zero) actor = []
went posters cells (Feed (suc k)) actor = poster_sent (slice_get posters k) actor
went posters cells (Actor a) actor = cell_sent (slice_get cells a) actor

-- the ends that messages of a source go into
abbrev pub outward_of_poster : Option FeedLinks → List Outward
outward_of_poster None = []
outward_of_poster (Some poster) = poster_links poster

abbrev pub outward_of_cell : Option Cell → List Outward
outward_of_cell None = []
outward_of_cell (Some cell) = cell.outward.items

abbrev pub outward_of : List FeedLinks → List Cell → Source → List Outward
outward_of posters cells (Feed zero) = []
outward_of posters cells (Feed (suc k)) = outward_of_poster (slice_get posters k)
outward_of posters cells (Actor a) = outward_of_cell (slice_get cells a)

-- where two ends are of one link, what was received at the one is all that was sent at the other
abbrev pub HaveMet : List FeedLinks → List Cell → Type 0
HaveMet posters cells = (source : Source) (actor : ℕ) (cell : Cell) (w : Outward) (v : Inward) → slice_get cells actor ≡ Some cell → IsIn w (outward_of posters cells source) → IsIn v cell.inward.items
    → identity_in w.link ≡ identity_out v.link → received v.link ≡ sent w.link

-- so all that went over wired links has arrived
abbrev pub MetIsArrived : Type 0
MetIsArrived = (posters : List FeedLinks) (cells : List Cell) → AreWired (map cell_tag cells) (map poster_tag posters) → HaveMet posters cells
    → (source : Source) (actor : ℕ) (cell : Cell) → slice_get cells actor ≡ Some cell → received_from cell.inward.items source ≡ went posters cells source actor

-- the feeds whose posts to each actor of the plan are what the posters sent
pub record AreFeedsOf (plan : Plan) (posters : List FeedLinks) (feeds : List (List (ℕ × Message))) : Type 0 where
  pub count : length feeds ≡ length posters
  pub each : (k actor : ℕ) (poster : FeedLinks) → actor < length plan.actors → slice_get posters k ≡ Some poster → feed_posts actor (slice_get feeds k) ≡ sent_to (poster_links poster) actor

-- all that went over the links has arrived, and no outbox holds a post
pub record AreDelivered (posters : List FeedLinks) (cells : List Cell) : Type 0 where
  pub arrived : (source : Source) (actor : ℕ) (cell : Cell) → slice_get cells actor ≡ Some cell → received_from cell.inward.items source ≡ went posters cells source actor
  pub empty : (actor target : ℕ) (cell : Cell) → slice_get cells actor ≡ Some cell → posts_for (held_in cell).outbox target ≡ []

-- ---- the run

abbrev pub run_in : Cell → ActorRun
run_in cell = run_of (held_in cell).setting.rules (state_in cell)

abbrev pub run_shown : Limits → List (List (ℕ × Message)) → List Cell → Run
run_shown limits feeds cells = record { version = 2; limits = limits; feeds = length feeds; actors = map run_in cells }

abbrev pub SettledIsLinked : Type 0
SettledIsLinked = (plan : Plan) (limits : Limits) (feeds : List (List (ℕ × Message))) (posters : List FeedLinks) (cells : List Cell) → IsServable plan limits feeds → AreOwn plan limits (length posters) cells → AreFeedsOf plan posters feeds
    → AreDelivered posters cells → IsLinked plan limits feeds (run_shown limits feeds cells)
