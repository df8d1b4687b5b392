-- The late counts of an actor, by the posts of each link to it.
use Rattle.std.specs.Prelude.{ℕ, ◌+◌, ◌-◌, ◌^◌, min, List, [], ◌∷◌, ◌++◌, Bool, length, map, if◌then◌else◌}
use Rattle.join_base.specs.Late.{late_list}
use Rattle.join_base.specs.declared.message.Source.{Source}
use Rattle.join_base.specs.declared.message.Source.TheVariants.{Feed, Actor}
use Rattle.join_base.specs.declared.message.Stamped.{Stamped}
use Rattle.fair_semantics.specs.declared.run.Entry.{Entry}
use Rattle.fair_semantics.specs.Linked.{count_of, numbers_from, taken_from}

abbrev pub count_where : Bool → ℕ → ℕ
count_where late count = if late then count else 0

abbrev pub feed_counts : Bool → List (Source × ℕ) → ℕ → ℕ → List ℕ
feed_counts may read from n = map (λ k. count_where may (count_of (Feed k) read)) (numbers_from from n)

-- of actors from this one on, how many posts are beyond those that arrived, counted up to the last 64-bit number
abbrev pub actor_counts : Bool → List Entry → ℕ → List (List Stamped) → List ℕ
actor_counts may entries from [] = []
actor_counts may entries from (posts ∷ links) = count_where may (min (length posts - length (taken_from (Actor from) entries)) (2 ^ 64 - 1)) ∷ actor_counts may entries (from + 1) links

-- of the feeds those that were read, and of the actors their posts beyond
abbrev pub lates_made : Bool → List (Source × ℕ) → ℕ → List Entry → List (List Stamped) → List (Source × ℕ)
lates_made may read feeds entries links = late_list (λ k. Feed k) 1 (feed_counts may read 1 feeds) ++ late_list (λ a. Actor a) 0 (actor_counts may entries 0 links)
