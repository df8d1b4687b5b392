-- What is prepared.
use Rattle.std.specs.Prelude.{◌≡◌, ℕ, List, All, length, map, slice_get, slice_set, Some, Result, IfOk, OnOk, OnErr}
use Rattle.join_base.specs.declared.items.NoMemory.{NoMemory}
use Rattle.script_types.specs.declared.plan.Plan.{Plan}
use Rattle.fair_semantics.specs.declared.run.Limits.{Limits}
use Rattle.actor_turn.specs.Held.{new_actor}
use Rattle.cell_links.specs.declared.feed_links.FeedLinks.{FeedLinks}
use Rattle.cell_links.specs.Ends.{PosterTag, link_count, poster_links}
use Rattle.cell_links.specs.Making.{IsNewIn, IsNewOut}
use Rattle.cell_links.specs.Wiring.{IsWired}
use Rattle.actor_cells.specs.declared.cell.Cell.{Cell}
use Rattle.actor_cells.specs.declared.cell.CellTag.{CellTag}
use Rattle.actor_cells.specs.declared.cells.Cells.{Cells}
use Rattle.actor_cells.specs.declared.serving.Turned.{Turned}
use Rattle.actor_cells.specs.Lawful.{held_in, tally_of}
use Rattle.actor_cells.specs.Served.{AllSent, StaysLawful, IsRefusing, TakesInTurn}

-- the cells of a list, in order
abbrev pub cells_of : Cells → List Cell
cells_of cells = cells.cells.items

-- the links of cells and posters with these tags are those of one pool
abbrev pub AreWired : List CellTag → List PosterTag → Type 0
AreWired tags posters = IsWired (map (λ tag. tag.links) tags) posters

-- the actor of this number before its first arrival, and links over which nothing went
pub record IsOpening (plan : Plan) (limits : Limits) (feeds ring index : ℕ) (c : Cell) : Type 0 where
  pub actor : held_in c ≡ new_actor plan index limits feeds
  pub inward : All IsNewIn c.inward.items
  pub outward : All (IsNewOut ring) c.outward.items

-- a link to each actor, over which nothing went
pub record IsNewPoster (actors ring : ℕ) (p : FeedLinks) : Type 0 where
  pub count : link_count p ≡ actors
  pub links : All (IsNewOut ring) (poster_links p)

-- an opening cell for each actor and a new poster for each feed
pub record ArePrepared (plan : Plan) (limits : Limits) (feeds ring : ℕ) (cells : List Cell) (posters : List FeedLinks) : Type 0 where
  pub count : length cells ≡ length plan.actors
  pub opening : (index : ℕ) (c : Cell) → slice_get cells index ≡ Some c → IsOpening plan limits feeds ring index c
  pub feed_count : length posters ≡ feeds
  pub each : All (IsNewPoster (length plan.actors) ring) posters

-- one cell was served, and the others are as they were
pub record IsServedAt (place : ℕ) (old now : List Cell) (result : Result Turned NoMemory) : Type 0 where
  pub before : Cell
  pub after : Cell
  pub here : slice_get old place ≡ Some before
  pub only : now ≡ slice_set old place after
  pub kept : StaysLawful before after
  pub turned : IfOk result (TakesInTurn (tally_of before) (tally_of after))
  pub sent : OnOk result (AllSent after)
  pub refused : OnErr result (IsRefusing after)
