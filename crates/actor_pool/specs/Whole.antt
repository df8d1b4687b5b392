-- When a pool has all its parts.
use Rattle.std.specs.Prelude.{◌≡◌, ℕ, List, All, Some, length, map, slice_get}
use Rattle.script_types.specs.declared.plan.Plan.{Plan}
use Rattle.fair_semantics.specs.declared.run.Limits.{Limits}
use mathlib.Core.List.{IsPrefix}
use Rattle.turn_lock.specs.View.{seen_of}
use Rattle.actor_cells.specs.declared.cell.Cell.{Cell}
use Rattle.actor_cells.specs.Lawful.{history_of}
use Rattle.actor_cells.specs.Prepared.{AreWired}
use Rattle.actor_cells.specs.Tags.{AreTagsOf}
use Rattle.actor_pool.specs.declared.helper.Helper.{Helper}
use Rattle.actor_pool.specs.declared.pool.Pool.{Pool}
use Rattle.actor_pool.specs.declared.poster.Poster.{Poster}
use Rattle.actor_pool.specs.Helpers.{SeatView, IsHelperOf, IsFirstHelper, seat_of, feed_count}
use Rattle.actor_pool.specs.Posters.{IsPosterOf, feed_tag}

-- the pool is one of the plan, the posters are all those of it, and the helper is its first, with no other out
pub record IsWhole (plan : Plan) (limits : Limits) (p : Pool) (posters : List Poster) (h : Helper) : Type 0 where
  pub own : IsHelperOf p h
  pub first : IsFirstHelper p 0 h
  pub feeds : length posters ≡ feed_count p
  pub posters_own : All (IsPosterOf p) posters
  pub tags : AreTagsOf plan limits (length posters) (seat_of h).tags
  pub wired : AreWired (seat_of h).tags (map feed_tag posters)

-- the history of each cell goes on from what was seen of it
abbrev pub HoldSeen : SeatView → List Cell → Type 0
HoldSeen v cells = (actor : ℕ) (cell : Cell) → slice_get cells actor ≡ Some cell → IsPrefix (seen_of v actor) (history_of cell)
