-- The stamps of the arrivals of an actor, by the posts of each link to it.
use Rattle.std.specs.Prelude.{ℕ, ◌+◌, ◌<◌, ◌==◌, max, replicate, List, [], ◌∷◌, Option, None, Some, drop, length, nat_lt, slice_get, slice_set, if◌then◌else◌}
use Rattle.join_base.specs.Stamps.{greatest_stamp}
use Rattle.join_base.specs.declared.message.Source.{Source}
use Rattle.join_base.specs.declared.message.Source.TheVariants.{Feed, Actor}
use Rattle.join_base.specs.declared.message.Stamped.{Stamped}
use Rattle.fair_semantics.specs.declared.run.Entry.{Entry}
use Rattle.fair_semantics.specs.Fair.{Sent}
use Rattle.fair_semantics.specs.Linked.{arrived}
use Rattle.log_posts.specs.Posts.{stamped_anew}

-- 1 more than the greater of the stamp before and the one that the arrival carries, or 1 where no stamp is left
abbrev pub next_stamp : ℕ → ℕ → ℕ
next_stamp before carried = if nat_lt (max before carried) greatest_stamp then max before carried + 1 else 1

abbrev pub link_at : Option (List Stamped) → List Stamped
link_at None = []
link_at (Some posts) = posts

-- what a source sent: the posts of its link, and of a feed none that carries a stamp
abbrev pub posts_from : List (List Stamped) → Source → List Stamped
posts_from links (Feed k) = []
posts_from links (Actor a) = link_at (slice_get links a)

-- the links without the next post of a source
abbrev pub links_after : List (List Stamped) → Source → List (List Stamped)
links_after links (Feed k) = links
links_after links (Actor a) = slice_set links a (drop 1 (link_at (slice_get links a)))

-- a source of which there is a link, among those of so many actors, if it is an actor
abbrev pub HasLink : ℕ → Source → Type 0
HasLink n (Feed k) = Unit {0}
HasLink n (Actor a) = a < n

-- the stamps of messages that arrive with these, where this was the stamp before them
abbrev pub stamps_behind : ℕ → List Sent → List ℕ
stamps_behind before [] = []
stamps_behind before (one ∷ sent) =
    let stamp : ℕ = next_stamp before one.1.stamp in
    stamp ∷ stamps_behind stamp sent

-- the stamps that a version has: version 1 has none
abbrev pub stamps_in : ℕ → List (List Stamped) → List Entry → List ℕ
stamps_in version links entries = if version == 1 then replicate (length entries) 0 else stamps_behind 0 (arrived (posts_from links) entries)

-- the entries with these stamps, as far as there are any
abbrev pub with_stamps : List ℕ → List Entry → List Entry
with_stamps [] entries = entries
with_stamps (stamp ∷ stamps) [] = []
with_stamps (stamp ∷ stamps) (entry ∷ entries) = stamped_anew entry stamp ∷ with_stamps stamps entries
