-- The reactions of a run: the arrivals whose firing printed or posted something, each with the rows that led to it.
use Rattle.std.specs.Prelude.{◌≡◌, ℕ, ◌+◌, ◌-◌, List, [], ◌∷◌, Bool, true, false, ◌&&◌, ◌||◌, ◌==◌, Option, None, Some, map, length, take, if◌then◌else◌}
use Rattle.std.specs.List.{AllByRecursion, cons_option}
use Rattle.fair_semantics.specs.declared.run.Effect.{Effect}
use Rattle.fair_semantics.specs.declared.run.Effect.TheVariants as effect
use Rattle.fair_semantics.specs.Linked.{firing_effects}
use Rattle.feed_causes.specs.declared.reaction.Reaction.{Reaction}
use Rattle.feed_causes.specs.Causes.{AreRows, Arrived}

-- a reply is no reaction: it goes back to who asked
abbrev pub is_shown : Effect → Bool
is_shown (effect.Print line) = true
is_shown (effect.Post target message) = true
is_shown (effect.Reply number value) = false

abbrev pub any_shown : List Effect → Bool
any_shown [] = false
any_shown (effect ∷ effects) = is_shown effect || any_shown effects

-- of this actor, or of each where none is named
abbrev pub is_of : Option ℕ → ℕ → Bool
is_of None actor = true
is_of (Some only) actor = actor == only

-- the arrival's firing printed or posted something
abbrev pub is_wanted : Option ℕ → Arrived → Bool
is_wanted only arrival = is_of only arrival.0 && any_shown (firing_effects arrival.1.firing)

abbrev pub wanted_at : Option ℕ → ℕ → Arrived → Option ℕ
wanted_at only place arrival = if is_wanted only arrival then Some place else None

-- the places of those arrivals, of which the first stands at this place
abbrev pub wanted_from : Option ℕ → ℕ → List Arrived → List ℕ
wanted_from only place [] = []
wanted_from only place (arrival ∷ more) = cons_option (wanted_at only place arrival) (wanted_from only (place + 1) more)

-- a reaction has the first nine of the rows that led to it, and how many more there are
pub record HasRows (all : List Arrived) (reaction : Reaction) : Type 0 where
  pub rows : List ℕ
  pub are : AreRows all reaction.place rows
  pub nine : reaction.first ≡ take 9 rows
  pub others : reaction.more ≡ length rows - 9

abbrev pub reaction_place : Reaction → ℕ
reaction_place reaction = reaction.place

-- these are the reactions among arrivals, in order
pub record AreReactions (all : List Arrived) (only : Option ℕ) (reactions : List Reaction) : Type 0 where
  pub places : map reaction_place reactions ≡ wanted_from only 0 all
  pub rows : AllByRecursion (HasRows all) reactions
