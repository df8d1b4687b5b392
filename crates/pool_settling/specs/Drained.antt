-- Actors of cells whose links were drained.
use Rattle.std.specs.Prelude.{◌≡◌, ℕ, ◌+◌, ◌≤◌, List, Some, length, slice_get}
use Rattle.actor_turn.specs.Held.{Held}
use Rattle.cell_links.specs.declared.feed_links.FeedLinks.{FeedLinks}
use Rattle.cell_links.specs.Ends.{sent_to}
use Rattle.actor_cells.specs.declared.cell.Cell.{Cell}
use Rattle.actor_cells.specs.Lawful.{held_in}
use Rattle.settling_law.specs.Settled.{went}
use Rattle.pool_settling.specs.Flat.{actors_in, received_count, went_count}
use Rattle.pool_settling.specs.Standing.{HistoryGoesOn, StandsBy}
use Rattle.pool_settling.specs.Work.{HaveSmallBodies, all_weight}

-- all that went over the links to the cell came to its actor, which goes on from what it was
pub record IsDrained (posters : List FeedLinks) (cells : List Cell) (actor : ℕ) (cell : Cell) (held : Held) : Type 0 where
  pub stands : StandsBy (λ source. went posters cells source actor) (sent_to cell.outward.items) held
  pub on : HistoryGoesOn (held_in cell) held

-- so it is of the actor of each cell
pub record AreDrained (posters : List FeedLinks) (cells : List Cell) (helds : List Held) : Type 0 where
  pub count : length helds ≡ length cells
  pub each : (actor : ℕ) (cell : Cell) (held : Held) → slice_get cells actor ≡ Some cell → slice_get helds actor ≡ Some held → IsDrained posters cells actor cell held
  pub weight : HaveSmallBodies (actors_in cells) → all_weight helds + received_count cells ≤ all_weight (actors_in cells) + went_count posters cells
