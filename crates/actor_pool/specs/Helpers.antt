-- What contracts read of a pool and of helpers.
use Rattle.std.specs.Prelude.{◌≡◌, ℕ, ◌+◌, ◌≤◌, List}
use Rattle.fair_semantics.specs.Fair.{Sent}
use Rattle.turn_lock.specs.declared.view.View.{View}
use Rattle.turn_lock.specs.declared.view.Turn.TheVariants.{Free}
use Rattle.turn_lock.specs.View.{IsFirst, HasSeenAll}
use Rattle.turn_lock.specs.Seats.{view_of, cell_count, IsOf}
use Rattle.ready_queue.specs.declared.view.PassView.{PassView}
use Rattle.ready_queue.specs.Passes as pass
use Rattle.actor_cells.specs.declared.cell.CellTag.{CellTag}
use Rattle.actor_cells.specs.declared.cell.LinkTally.{LinkTally}
use Rattle.actor_pool.specs.declared.helper.Helper.{Helper}
use Rattle.actor_pool.specs.declared.pool.Pool.{Pool}

-- what a seat knows of cells: their tags, their histories, and tallies
abbrev pub SeatView : Type 0
SeatView = View CellTag Sent (List LinkTally)

-- what the seat of a helper knows, and what its pass knows
abbrev pub seat_of : Helper → SeatView
seat_of h = view_of h.seat

abbrev pub pass_of : Helper → PassView
pass_of h = pass.view_of h.pass

-- how many actors the pool has
abbrev pub actor_count : Pool → ℕ
actor_count p = p.actors

-- and how many feeds
abbrev pub feed_count : Pool → ℕ
feed_count p = p.feeds

-- the helper belongs to the pool, and has no turn
pub record IsHelperOf (p : Pool) (h : Helper) : Type 0 where
  pub seat : IsOf p.turns h.seat
  pub pass : pass.IsOf p.tickets h.pass
  pub free : (seat_of h).turn ≡ Free

-- it is the first helper, with so many others out. Each poster has a seat too, which is out
abbrev pub IsFirstHelper : Pool → ℕ → Helper → Type 0
IsFirstHelper p out h = IsFirst (out + feed_count p) (seat_of h)

-- the same helper later: it has seen no less, and its tries, claims and empty takes did not fall
pub record HelperGoesOn (p : Pool) (old now : Helper) : Type 0 where
  pub own : IsHelperOf p now
  pub role : (seat_of now).role ≡ (seat_of old).role
  pub tags : (seat_of now).tags ≡ (seat_of old).tags
  pub seen : HasSeenAll (seat_of old) (seat_of now)
  pub tries : (seat_of old).tries ≤ (seat_of now).tries
  pub claims : (seat_of old).claims ≤ (seat_of now).claims
  pub nones : (pass_of old).nones ≤ (pass_of now).nones
