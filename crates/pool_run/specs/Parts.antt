-- What threads are given, and what comes back.
use Rattle.std.specs.Prelude.{◌≡◌, ℕ, ◌<◌, List, ◌++◌, All, Some, map, slice_get}
use mathlib.Core.List.{IsPrefix}
use Rattle.std.specs.List.{AllZip}
use Rattle.join_base.specs.declared.message.Message.{Message}
use Rattle.turn_lock.specs.View.{IsOther, seen_of}
use Rattle.actor_cells.specs.declared.cell.CellTag.{CellTag}
use Rattle.actor_pool.specs.declared.helper.Helper.{Helper}
use Rattle.actor_pool.specs.declared.pool.Pool.{Pool}
use Rattle.actor_pool.specs.declared.poster.Poster.{Poster}
use Rattle.actor_cells.specs.History.{History}
use Rattle.actor_pool.specs.Beside.{Fitting, FitsOpening, FitsSeen, setting_in}
use Rattle.actor_pool.specs.Helpers.{SeatView, IsHelperOf, seat_of, actor_count}
use Rattle.actor_pool.specs.Posters.{IsPosterOf, SendsAll, feed_tag, feed_links}
use Rattle.pool_run.specs.declared.parts.FeedPart.{FeedPart}
use Rattle.pool_run.specs.declared.parts.HelperBack.{HelperBack}
use Rattle.pool_run.specs.declared.parts.Returned.{Returned}
use Rattle.pool_run.specs.declared.parts.WorkPart.{WorkPart}

-- a helper of the pool that was split off
pub record IsSpare (p : Pool) (h : Helper) : Type 0 where
  pub own : IsHelperOf p h
  pub other : IsOther (seat_of h)

-- it knows of cells with these tags
abbrev pub HasTags : List CellTag → Helper → Type 0
HasTags tags h = (seat_of h).tags ≡ tags

module _ {B : Type 0} where
  -- what is kept fits what this seat has seen of each actor, and all that goes on from there
  abbrev pub FitsLater : Fitting B → SeatView → B → Type 0
  FitsLater fits v kept = (actor : ℕ) (tag : CellTag) → slice_get v.tags actor ≡ Some tag → (history : History) → IsPrefix (seen_of v actor) history → fits kept actor (setting_in tag) history

  abbrev pub part_poster : FeedPart B → Poster
  part_poster part = part.poster

  abbrev pub part_posts : FeedPart B → List (ℕ × Message)
  part_posts part = part.posts

  abbrev pub part_helper : FeedPart B → Helper
  part_helper part = part.helper

  -- a poster and a spare helper of the pool, with posts for its actors; what stands beside has seen nothing
  pub record IsPart (p : Pool) (fits : Fitting B) (part : FeedPart B) : Type 0 where
    pub poster : IsPosterOf p part.poster
    pub spare : IsSpare p part.helper
    pub exist : All (λ (post : ℕ × Message). post.0 < actor_count p) part.posts
    pub opening : FitsOpening fits part.beside

  -- the poster of the part later: it sent all its posts
  pub record IsFed (p : Pool) (part : FeedPart B) (now : Poster) : Type 0 where
    pub own : IsPosterOf p now
    pub tag : feed_tag now ≡ feed_tag part.poster
    pub sent : SendsAll (feed_links part.poster) part.posts (feed_links now)

  -- a helper that is spare, with these tags, and what stands beside it fits what it has seen
  pub record IsJoinable (p : Pool) (fits : Fitting B) (known : List CellTag) (back : HelperBack B) : Type 0 where
    pub spare : IsSpare p back.helper
    pub tags : HasTags known back.helper
    pub seen : FitsSeen fits (seat_of back.helper) back.beside

  -- so it is of the helper that was given, later
  abbrev pub IsBack : Pool → Fitting B → Helper → HelperBack B → Type 0
  IsBack p fits given back = IsJoinable p fits (seat_of given).tags back

module _ {S B : Type 0} where
  abbrev pub worker_helper : WorkPart S B → Helper
  worker_helper part = part.helper

  -- a spare helper of the pool, and a source of tickets for it; what stands beside has seen nothing
  pub record IsWorker (p : Pool) (belongs : S → ℕ → Type 0) (fits : Fitting B) (part : WorkPart S B) : Type 0 where
    pub spare : IsSpare p part.helper
    pub source : belongs part.source (actor_count p)
    pub opening : FitsOpening fits part.beside

  -- the poster of each part sent its posts, in order, and all helpers are back: those of the workers and then those of
  -- the feeds
  pub record AreReturned (p : Pool) (fits : Fitting B) (parts : List (FeedPart B)) (crew : List (WorkPart S B)) (back : Returned B) : Type 0 where
    pub fed : AllZip (IsFed p) parts back.posters.items
    pub helped : AllZip (IsBack p fits) (map worker_helper crew ++ map part_helper parts) back.helpers.items
