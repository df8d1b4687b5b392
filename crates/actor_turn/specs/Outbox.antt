-- The posts that wait for one actor.
use Rattle.std.specs.Prelude.{ℕ, ◌+◌, ◌≤◌, List, [], ◌∷◌, Bool, true, false}
use Rattle.std.specs.VecDeque.{deque_len, deque_capacity}
use Rattle.join_base.specs.declared.message.Stamped.{Stamped}
use Rattle.actor_turn.specs.declared.outbox.Outbox.TheInside.{Inside}

-- the posts in order, and whether the place of the one that was taken last is kept
pub record Queue : Type 0 where
  pub posts : List Stamped
  pub lent : Bool

-- the places that are kept
abbrev pub kept_places : Bool → ℕ
kept_places true = 1
kept_places false = 0

abbrev pub queue_of : Inside → Queue
queue_of a = record { posts = a.posts.items; lent = a.lent }

-- there is a place for the post that may be brought back
abbrev pub HasPlace : Inside → Type 0
HasPlace a = deque_len a.posts + kept_places a.lent ≤ deque_capacity a.posts

-- a post was taken, or none waits
abbrev pub is_lent_after : List Stamped → Bool → Bool
is_lent_after [] lent = lent
is_lent_after (post ∷ posts) lent = true
