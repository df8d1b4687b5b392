-- The answer of a row of a feed: what was replied to the arrival that it became.
use Rattle.std.specs.Prelude.{ℕ, zero, suc, List, Option, None, Some, ◌==◌, map, take, slice_get, if◌then◌else◌}
use Rattle.std.specs.List.{count_by, filter_map, flat_map}
use Rattle.std.specs.Option.{option_and_then}
use Rattle.join_base.specs.declared.message.Value.{Value}
use Rattle.join_base.specs.declared.message.Message.{Message}
use Rattle.join_base.specs.declared.message.Source.{Source}
use Rattle.join_base.specs.declared.message.Source.TheVariants.{Feed}
use Rattle.fair_semantics.specs.declared.run.Effect.{Effect}
use Rattle.fair_semantics.specs.declared.run.Effect.TheVariants.{Print, Post, Reply}
use Rattle.fair_semantics.specs.declared.run.Entry.{Entry}
use Rattle.fair_semantics.specs.declared.run.ActorRun.{ActorRun}
use Rattle.fair_semantics.specs.Linked.{firing_effects, same_source}

-- the item at a place that is counted from 1
abbrev pub from_one : {A : Type 0} → List A → ℕ → Option A
from_one items zero = None
from_one items (suc place) = slice_get items place

-- what an effect replies to an arrival
abbrev pub reply_to : ℕ → Effect → Option Value
reply_to number (Print line) = None
reply_to number (Post target message) = None
reply_to number (Reply to value) = if to == number then Some value else None

-- what the bodies did, in order
abbrev pub effects_in : List Entry → List Effect
effects_in entries = flat_map (λ (entry : Entry). firing_effects entry.firing) entries

-- the reply to an arrival, or none: in a right run there is one at the most, since a number is taken once
abbrev pub reply_in : List Entry → ℕ → Option Value
reply_in entries number = slice_get (filter_map (reply_to number) (effects_in entries)) 0

abbrev pub number_from : Source → Entry → Option ℕ
number_from source entry = if same_source entry.source source then Some entry.number else None

-- the numbers of the arrivals from a source, in order
abbrev pub arrivals_from : Source → List Entry → List ℕ
arrivals_from source entries = filter_map (number_from source) entries

-- the reply to the arrival at a place, counted from 1, among those of a feed
abbrev pub reply_at : List Entry → ℕ → ℕ → Option Value
reply_at entries feed place = option_and_then (reply_in entries) (from_one (arrivals_from (Feed feed) entries) place)

-- the answer of the post at a place among those of a feed to an actor: the reply to the arrival that it became
abbrev pub answer_of : List ActorRun → ℕ → ℕ → ℕ → Option Value
answer_of runs feed actor place = option_and_then (λ (own : ActorRun). reply_at own.entries feed place) (slice_get runs actor)

-- for each row of a feed the actor that it is for
abbrev pub targets_of : List (ℕ × Message) → List ℕ
targets_of posts = map (λ (post : ℕ × Message). post.0) posts

-- how many of the rows are for an actor
abbrev pub rows_for : ℕ → List ℕ → ℕ
rows_for actor targets = count_by (λ (target : ℕ). target == actor) targets

-- the answer of a row of a feed, counted from 1: its place is the number of rows for its actor up to it
abbrev pub row_answer : List ActorRun → ℕ → List ℕ → ℕ → Option Value
row_answer runs feed targets row = option_and_then (λ (actor : ℕ). answer_of runs feed actor (rows_for actor (take row targets))) (from_one targets row)
