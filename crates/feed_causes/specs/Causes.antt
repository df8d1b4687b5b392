-- What led to a firing of a run: the arrivals that it took, and those behind the posts among them.
use Rattle.std.specs.Prelude.{◌≡◌, ℕ, ◌+◌, ◌-◌, List, [], ◌∷◌, ◌++◌, Bool, true, false, ◌&&◌, ◌==◌, Option, None, Some, map, replicate, take, slice_get, if◌then◌else◌}
use Rattle.std.specs.List.{count_by}
use Rattle.std.specs.List.Sorted.{IsStrictlyIncreasing}
use Rattle.join_base.specs.declared.message.Source.{Source}
use Rattle.join_base.specs.declared.message.Source.TheVariants.{Feed, Actor}
use Rattle.pattern_core.specs.Members.{IsIn}
use Rattle.fair_semantics.specs.declared.run.Effect.{Effect}
use Rattle.fair_semantics.specs.declared.run.Effect.TheVariants as effect
use Rattle.fair_semantics.specs.declared.run.Firing.{Firing}
use Rattle.fair_semantics.specs.declared.run.Entry.{Entry}
use Rattle.fair_semantics.specs.declared.run.ActorRun.{ActorRun}
use Rattle.fair_semantics.specs.declared.run.Run.{Run}
use Rattle.fair_semantics.specs.Linked.{firing_effects, same_source}

-- ---- the arrivals of a run

-- an arrival, with its actor
abbrev pub Arrived : Type 0
Arrived = ℕ × Entry

abbrev pub at_actor : ℕ → Entry → Arrived
at_actor actor entry = (actor, entry)

-- those of the actors from this one on
abbrev pub arrivals_from : ℕ → List ActorRun → List Arrived
arrivals_from actor [] = []
arrivals_from actor (own ∷ runs) = map (at_actor actor) own.entries ++ arrivals_from (actor + 1) runs

-- all of them, actor by actor; below, an arrival is named by its place here
abbrev pub arrivals : Run → List Arrived
arrivals run = arrivals_from 0 run.actors

-- ---- what a firing took

abbrev pub taken_numbers : Option Firing → List ℕ
taken_numbers None = []
taken_numbers (Some firing) = firing.taken

-- the place of the arrival with a number, from that of one of the same actor with its own: they stand in the order of
-- their numbers
abbrev pub place_of : ℕ → ℕ → ℕ → ℕ
place_of place own number = place + number - own

abbrev pub taken_of : ℕ → Entry → List ℕ
taken_of place entry = map (place_of place entry.number) (taken_numbers entry.firing)

abbrev pub taken_by : ℕ → Option Arrived → List ℕ
taken_by place None = []
taken_by place (Some arrival) = taken_of place arrival.1

-- the arrivals that the firing at a place took
abbrev pub taken_at : List Arrived → ℕ → List ℕ
taken_at all place = taken_by place (slice_get all place)

-- ---- which firing posted an arrival

abbrev pub is_post_to : ℕ → Effect → Bool
is_post_to to (effect.Print line) = false
is_post_to to (effect.Post target message) = target == to
is_post_to to (effect.Reply number value) = false

-- how many posts from one actor to another an arrival's firing made
abbrev pub posts_by : ℕ → ℕ → Arrived → ℕ
posts_by from to arrival = if arrival.0 == from then count_by (is_post_to to) (firing_effects arrival.1.firing) else 0

-- for each post from one actor to another, in order, the arrival whose firing made it: of those from this place on
abbrev pub posters : ℕ → ℕ → ℕ → List Arrived → List ℕ
posters from to place [] = []
posters from to place (arrival ∷ more) = replicate (posts_by from to arrival) place ++ posters from to (place + 1) more

-- an arrival came from one actor to another
abbrev pub is_from : ℕ → ℕ → Arrived → Bool
is_from from to arrival = (arrival.0 == to) && same_source arrival.1.source (Actor from)

-- messages from one actor to another arrive in the order of the posts: behind so many arrivals comes the post behind so
-- many
abbrev pub origin_of : List Arrived → ℕ → ℕ → Source → Option ℕ
origin_of all place to (Feed feed) = None
origin_of all place to (Actor from) = slice_get (posters from to 0 all) (count_by (is_from from to) (take place all))

abbrev pub origin_by : List Arrived → ℕ → Option Arrived → Option ℕ
origin_by all place None = None
origin_by all place (Some arrival) = origin_of all place arrival.0 arrival.1.source

-- the arrival whose firing posted the message that arrived at a place, if it came from an actor
abbrev pub origin_at : List Arrived → ℕ → Option ℕ
origin_at all place = origin_by all place (slice_get all place)

-- ---- what led to a firing

-- an arrival led to the firing at a place: that firing took it; or a firing took it which posted one that led there
pub data LedTo (all : List Arrived) (place : ℕ) : ℕ → Type 0 where
  took : (cause : ℕ) → IsIn cause (taken_at all place) → LedTo all place cause
  posted : (later origin cause : ℕ) → LedTo all place later → origin_at all later ≡ Some origin → IsIn cause (taken_at all origin) → LedTo all place cause

abbrev pub is_feed : Source → Bool
is_feed (Feed feed) = true
is_feed (Actor actor) = false

abbrev pub is_row_by : Option Arrived → Bool
is_row_by None = false
is_row_by (Some arrival) = is_feed arrival.1.source

-- a row of a feed arrived at this place
abbrev pub is_row : List Arrived → ℕ → Bool
is_row all place = is_row_by (slice_get all place)

-- these are the rows of feeds that led to the firing at a place, each once, in order
pub record AreRows (all : List Arrived) (place : ℕ) (rows : List ℕ) : Type 0 where
  pub led : (cause : ℕ) → IsIn cause rows → LedTo all place cause
  pub fed : (cause : ℕ) → IsIn cause rows → is_row all cause ≡ true
  pub each : (cause : ℕ) → is_row all cause ≡ true → LedTo all place cause → IsIn cause rows
  pub ascend : IsStrictlyIncreasing rows
