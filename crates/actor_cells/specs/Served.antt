-- What serving does.
use Rattle.std.specs.Prelude.{◌≡◌, ◌⊎◌, ℕ, ◌+◌, ◌<◌, ◌≤◌, List, [], ◌∷◌, true, slice_get, Some}
use mathlib.Core.List.{IsPrefix}
use Rattle.join_base.specs.declared.message.Stamped.{Stamped}
use Rattle.post_ring.specs.declared.link_in.LinkIn.{LinkIn}
use Rattle.post_ring.specs.Links.{one_more, room, waiting}
use Rattle.actor_turn.specs.Held.{Held, is_taken, posts_for}
use Rattle.cell_links.specs.declared.ends.Inward.{Inward}
use Rattle.cell_links.specs.declared.ends.Outward.{Outward}
use Rattle.actor_cells.specs.declared.cell.Cell.{Cell}
use Rattle.actor_cells.specs.declared.cell.LinkTally.{LinkTally}
use Rattle.actor_cells.specs.declared.serving.Turned.{Turned}
use Rattle.actor_cells.specs.declared.serving.Turned.TheVariants as turned
use Rattle.actor_cells.specs.Lawful.{IsLawful, cell_tag, held_in, history_of, state_in}

-- the cell is lawful as before, with its tag, and its history goes on from what it was
pub record StaysLawful (before after : Cell) : Type 0 where
  pub lawful : IsLawful after
  pub tag : cell_tag after ≡ cell_tag before
  pub history : IsPrefix (history_of before) (history_of after)

-- how many messages were received over all links
abbrev pub all_received : List LinkTally → ℕ
all_received [] = 0
all_received (link ∷ tally) = link.received + all_received tally

-- each number of empty looks rose, or stands at the last number of 64 bits
abbrev pub LooksRose : List LinkTally → List LinkTally → Type 0
LooksRose [] [] = Unit {0}
LooksRose [] (link ∷ after) = ⊥
LooksRose (link ∷ before) [] = ⊥
LooksRose (link ∷ before) (now ∷ after) = (one_more link.empty_looks ≤ now.empty_looks) × LooksRose before after

-- More: 256 messages were taken. Dry: fewer were, and each link was looked at and showed none
abbrev pub TakesInTurn : List LinkTally → List LinkTally → Turned → Type 0
TakesInTurn before after turned.More = all_received after ≡ all_received before + 256
TakesInTurn before after turned.Dry = (all_received after < all_received before + 256) × LooksRose before after

-- a message that the actor would take waits first on one of the links
pub record IsRefusing (c : Cell) : Type 0 where
  pub place : ℕ
  pub link : Inward
  pub message : Stamped
  pub here : slice_get c.inward.items place ≡ Some link
  pub first : IsPrefix (message ∷ []) (waiting link.link)
  pub taken : is_taken (held_in c).setting (state_in c) message.message message.stamp ≡ true

-- no post waits for the target, or the link to it is known to have no room
abbrev pub IsSent : ℕ → Held → LinkIn → Type 0
IsSent target held link = (posts_for held.outbox target ≡ []) ⊎ (room link ≡ 0)

-- so it is of the target of each link
abbrev pub AllSent : Cell → Type 0
AllSent c = (place : ℕ) (w : Outward) → slice_get c.outward.items place ≡ Some w → IsSent w.target (held_in c) w.link
