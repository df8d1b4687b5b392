-- The posts of a feed that wait for an actor.
use Rattle.std.specs.Prelude.{◌≡◌, ℕ, ◌+◌, List, ◌∷◌, Some, drop, slice_get}
use Rattle.std.specs.List.{filter_map}
use Rattle.join_base.specs.declared.message.Message.{Message}
use Rattle.join_base.specs.declared.message.Stamped.{Stamped}
use Rattle.fair_semantics.specs.Linked.{post_for}

-- the posts of a feed to an actor, from a place on
abbrev pub fed_from : List (ℕ × Message) → ℕ → ℕ → List Stamped
fed_from posts place actor = filter_map (post_for actor) (drop place posts)

-- at this place stands the first of them
pub record IsNext (posts : List (ℕ × Message)) (from actor place : ℕ) : Type 0 where
  pub message : Message
  pub here : slice_get posts place ≡ Some (actor, message)
  pub waits : fed_from posts from actor ≡ record { message = message; stamp = 0 } ∷ fed_from posts (place + 1) actor
