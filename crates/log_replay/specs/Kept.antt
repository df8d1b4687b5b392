-- What the lines of a run say of posts, beside its expected run: the first that does not hold. Lines are counted from
-- 0.
use Rattle.std.specs.Prelude.{ℕ, ◌+◌, min, List, [], ◌∷◌, Bool, false, ◌&&◌, nat_lt, Option, None, Some, length, slice_get, if◌then◌else◌}
use Rattle.join_base.specs.declared.message.Source.TheVariants.{Actor}
use Rattle.join_base.specs.declared.message.Stamped.{Stamped}
use Rattle.fair_semantics.specs.declared.run.ActorRun.{ActorRun}
use Rattle.fair_semantics.specs.declared.run.Entry.{Entry}
use Rattle.fair_semantics.specs.declared.run.Firing.{Firing}
use Rattle.fair_semantics.specs.declared.run.Run.{Run}
use Rattle.fair_semantics.specs.Linked.{numbers_from, same_source}
use Rattle.fair_semantics.specs.Step.{is_running}
use Rattle.run_order_law.specs.Sorted.{entries_in}
use Rattle.log_posts.specs.Posts.{has_message, link_posts}

-- ---- the first line that does not hold

-- how many lines a firing takes, with its effects, and an entry
abbrev pub firing_size : Option Firing → ℕ
firing_size None = 0
firing_size (Some firing) = 1 + length firing.effects

abbrev pub entry_size : Entry → ℕ
entry_size entry = 1 + firing_size entry.firing

abbrev pub entries_size : List Entry → ℕ
entries_size [] = 0
entries_size (entry ∷ entries) = entry_size entry + entries_size entries

-- the heading and the end are a line each
abbrev pub section_size : ActorRun → ℕ
section_size own = 2 + entries_size own.entries + length own.late

abbrev pub sections_size : List ActorRun → ℕ
sections_size [] = 0
sections_size (own ∷ runs) = section_size own + sections_size runs

-- Of the entries from this line on, where so many of the posts from an actor were taken: the first entry from it that
-- is not its next post, or the end line, behind so many late ones, where the section is to run on and lacks a post.
abbrev pub link_fault : List Stamped → ℕ → Bool → ℕ → ℕ → ℕ → List Entry → Option ℕ
link_fault posts from runs_on late line taken [] = if runs_on && nat_lt taken (length posts) then Some (line + late) else None
link_fault posts from runs_on late line taken (entry ∷ entries) =
    if same_source entry.source (Actor from)
    then (if has_message (slice_get posts taken) entry.message then link_fault posts from runs_on late (line + entry_size entry) (taken + 1) entries else Some line)
    else link_fault posts from runs_on late (line + entry_size entry) taken entries

-- the lesser of two of which each may be missing
abbrev pub earlier : Option ℕ → Option ℕ → Option ℕ
earlier None b = b
earlier (Some a) None = Some a
earlier (Some a) (Some b) = Some (min a b)

abbrev pub ends_running : Option ActorRun → Bool
ends_running None = false
ends_running (Some own) = is_running own.ending

-- of the section of an actor that begins at this line, by the posts of another
abbrev pub link_of : Run → Run → ℕ → ℕ → ActorRun → ℕ → Option ℕ
link_of run expected to line own from =
    link_fault (link_posts to (entries_in (slice_get expected.actors from)) (entries_in (slice_get run.actors from))) from (ends_running (slice_get expected.actors to)) (length own.late) (line + 1) 0 own.entries

-- the first of the links from these actors, where this was the first so far
abbrev pub links_fault : Run → Run → ℕ → ℕ → ActorRun → Option ℕ → List ℕ → Option ℕ
links_fault run expected to line own first [] = first
links_fault run expected to line own first (from ∷ more) = links_fault run expected to line own (earlier first (link_of run expected to line own from)) more

abbrev pub section_fault : Run → Run → ℕ → ℕ → ActorRun → Option ℕ
section_fault run expected to line own = links_fault run expected to line own None (numbers_from 0 (length run.actors))

abbrev pub or_else : Option ℕ → Option ℕ → Option ℕ
or_else None later = later
or_else (Some first) later = Some first

-- the sections of the actors from this one on, of which the first begins at this line
abbrev pub sections_fault : Run → Run → ℕ → ℕ → List ActorRun → Option ℕ
sections_fault run expected to line [] = None
sections_fault run expected to line (own ∷ runs) = or_else (section_fault run expected to line own) (sections_fault run expected (to + 1) (line + section_size own) runs)

abbrev pub posts_fault : Run → Run → Option ℕ
posts_fault run expected = sections_fault run expected 0 1 run.actors
