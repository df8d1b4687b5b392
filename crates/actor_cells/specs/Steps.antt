-- What private functions do.
use Rattle.std.specs.Prelude.{◌≡◌, ℕ, zero, suc, ◌+◌, ◌-◌, ◌^◌, ◌<◌, ◌≤◌, min, List, [], ◌∷◌, ◌++◌, true, length, slice_get, Some}
use Rattle.std.specs.List.{AllByRecursion}
use mathlib.Core.List.{IsPrefix}
use Rattle.join_base.specs.declared.message.Source.{Source}
use Rattle.join_base.specs.declared.message.Stamped.{Stamped}
use Rattle.post_ring.specs.declared.link_in.LinkIn.{LinkIn}
use Rattle.post_ring.specs.declared.link_out.LinkOut.{LinkOut}
use Rattle.post_ring.specs.Links.{empty_looks, identity_in, identity_out, one_more, received, sent, waiting}
use Rattle.fair_semantics.specs.Step.{fair_step}
use Rattle.actor_turn.specs.Held.{Held, history_with, is_taken, new_entries, posts_behind, posts_for}
use Rattle.cell_links.specs.declared.ends.Outward.{Outward}
use Rattle.actor_turn.specs.Rest.{HoldsPartialMatches}
use Rattle.actor_cells.specs.declared.cell.LinkTally.{LinkTally}
use Rattle.actor_cells.specs.Served.{IsSent, all_received}

-- a message was taken from the link of a source, and the actor did its fair step; its history goes on with the message,
-- and its trees hold the partial matches again
pub record Brings (source : Source) (before after : Held) (old now : LinkOut) : Type 0 where
  pub message : Stamped
  pub identity : identity_out now ≡ identity_out old
  pub took : received now ≡ received old ++ message ∷ []
  pub looks : empty_looks now ≡ empty_looks old
  pub setting : after.setting ≡ before.setting
  pub state : after.state ≡ (fair_step before.setting before.state source message.message message.stamp).0
  pub history : after.history ≡ history_with before source message.message message.stamp
  pub partial : HoldsPartialMatches after
  pub outbox : after.outbox ≡ posts_behind 0 (new_entries before.state after.state) before.outbox

-- the link showed nothing
pub record FindsNone (before after : Held) (old now : LinkOut) : Type 0 where
  pub identity : identity_out now ≡ identity_out old
  pub took : received now ≡ received old
  pub looks : empty_looks now ≡ one_more (empty_looks old)
  pub same : after ≡ before

-- the message that waits first was refused
pub record Refuses (before after : Held) (old now : LinkOut) : Type 0 where
  pub identity : identity_out now ≡ identity_out old
  pub took : received now ≡ received old
  pub looks : empty_looks now ≡ empty_looks old
  pub same : after ≡ before
  pub message : Stamped
  pub first : IsPrefix (message ∷ []) (waiting now)
  pub taken : is_taken before.setting before.state message.message message.stamp ≡ true

-- posts to a target were moved from the outbox to the link
pub record Moves (target : ℕ) (before after : Held) (old now : LinkIn) : Type 0 where
  pub identity : identity_in now ≡ identity_in old
  pub setting : after.setting ≡ before.setting
  pub state : after.state ≡ before.state
  pub history : after.history ≡ before.history
  pub trees : after.trees ≡ before.trees
  pub count : length after.outbox ≡ length before.outbox
  pub all : sent now ++ posts_for after.outbox target ≡ sent old ++ posts_for before.outbox target
  pub others : (other : ℕ) → ¬ (other ≡ target) → posts_for after.outbox other ≡ posts_for before.outbox other

-- each post for the targets of the first links was sent, as far as there is room
abbrev pub FirstSent : ℕ → Held → List Outward → Type 0
FirstSent count held links = (place : ℕ) (w : Outward) → place < count → slice_get links place ≡ Some w → IsSent w.target held w.link

-- their stamps are not too great for a link
abbrev pub AreSmall : List Stamped → Type 0
AreSmall posts = AllByRecursion (λ post. post.stamp ≤ 4294967295) posts

-- ---- tallies

abbrev pub one_received : LinkTally → LinkTally
one_received link = record { received = link.received + 1; empty_looks = link.empty_looks }

abbrev pub one_look : LinkTally → LinkTally
one_look link = record { received = link.received; empty_looks = one_more link.empty_looks }

-- at one place
abbrev pub changed_at : (LinkTally → LinkTally) → List LinkTally → ℕ → List LinkTally
changed_at change [] place = []
changed_at change (link ∷ tally) zero = change link ∷ tally
changed_at change (link ∷ tally) (suc place) = link ∷ changed_at change tally place

-- at the first places
abbrev pub looked_first : ℕ → List LinkTally → List LinkTally
looked_first zero tally = tally
looked_first (suc n) [] = []
looked_first (suc n) (link ∷ tally) = one_look link ∷ looked_first n tally

-- no number of empty looks of 64 bits fell
abbrev pub LooksStay : List LinkTally → List LinkTally → Type 0
LooksStay [] [] = Unit {0}
LooksStay [] (link ∷ after) = ⊥
LooksStay (link ∷ before) [] = ⊥
LooksStay (link ∷ before) (now ∷ after) = (min link.empty_looks (2 ^ 64 - 1) ≤ min now.empty_looks (2 ^ 64 - 1)) × LooksStay before after

-- so many messages were taken, and no number of empty looks fell
pub record TakesMany (before after : List LinkTally) (taken : ℕ) : Type 0 where
  pub took : all_received after ≡ all_received before + taken
  pub stay : LooksStay before after
  pub count : length after ≡ length before
