-- What is kept of the firings of an actor's arrivals.
use Rattle.std.specs.Prelude.{◌≡◌, ℕ, List, Option, vec_capacity}
use Rattle.fair_semantics.specs.declared.run.Firing.{Firing}
use Rattle.actor_turn.specs.declared.firings.Firings.TheInside.{Inside}
use Rattle.actor_turn.specs.Counts.{fired_among, posts_among}

-- what each arrival fired, if it did, and for how many there is room
pub record FiringList : Type 0 where
  pub items : List (Option Firing)
  pub room : ℕ

abbrev pub firing_list : Inside → FiringList
firing_list a = record { items = a.items.items; room = vec_capacity a.items }

-- the counts are those of the list
pub record IsCounted (a : Inside) : Type 0 where
  pub fired : a.fired ≡ fired_among a.items.items
  pub posts : a.posts ≡ posts_among a.items.items
