-- What contracts read of posters.
use Rattle.std.specs.Prelude.{◌≡◌, ℕ, ◌+◌, List, ◌++◌, slice_index}
use Rattle.std.specs.List.{filter_map}
use mathlib.Core.List.{IsPrefix}
use Rattle.join_base.specs.declared.message.Message.{Message}
use Rattle.fair_semantics.specs.Linked.{post_for}
use Rattle.turn_lock.specs.declared.view.Turn.TheVariants.{Free}
use Rattle.turn_lock.specs.View.{IsOther}
use Rattle.turn_lock.specs.Seats.{view_of, IsOf}
use Rattle.turn_lock.specs.declared.turns.Turns.{Turns}
use Rattle.cell_links.specs.declared.ends.Outward.{Outward}
use Rattle.cell_links.specs.declared.feed_links.FeedLinks as ends
use Rattle.cell_links.specs.Ends.{PosterTag, poster_tag, poster_links, link_count, sent_to}
use Rattle.actor_pool.specs.declared.pool.Pool.{Pool}
use Rattle.actor_pool.specs.declared.poster.Poster.{Poster}
use Rattle.actor_pool.specs.Helpers.{SeatView, actor_count}

-- the ends of the links of a poster, what it sent over them, and their tag
abbrev pub feed_ends : Poster → ends.FeedLinks
feed_ends p = p.ends

abbrev pub feed_links : Poster → List Outward
feed_links p = poster_links p.ends

abbrev pub feed_tag : Poster → PosterTag
feed_tag p = poster_tag p.ends

-- what its seat knows
abbrev pub feed_seat : Poster → SeatView
feed_seat p = view_of p.seat

-- its seat is of this lock, is not the first, and has no turn
pub record IsSeated (t : Turns _ _ _ _) (p : Poster) : Type 0 where
  pub seat : IsOf t p.seat
  pub other : IsOther (feed_seat p)
  pub free : (feed_seat p).turn ≡ Free

-- the poster belongs to the pool, and has a link to each actor
pub record IsPosterOf (p : Pool) (poster : Poster) : Type 0 where
  pub seated : IsSeated p.turns poster
  pub links : link_count poster.ends ≡ actor_count p

-- the flags of the actor i rose by 1
abbrev pub FlagsMore : ℕ → SeatView → SeatView → Type 0
FlagsMore i v w = slice_index w.flags i ≡ slice_index v.flags i + 1

-- these posts were sent in order, each to its actor, and nothing else
abbrev pub SendsAll : List Outward → List (ℕ × Message) → List Outward → Type 0
SendsAll old posts now = (actor : ℕ) → sent_to now actor ≡ sent_to old actor ++ filter_map (post_for actor) posts

-- the posts of a beginning of the list were
abbrev pub SendsSome : List Outward → List (ℕ × Message) → List Outward → Type 0
SendsSome old posts now = (done : List (ℕ × Message)) × IsPrefix done posts × SendsAll old done now
