-- The search for the first line that is not that of the feeds: actor by actor, and feed by feed in a section.
use Rattle.std.specs.Prelude.{◌≡◌, ℕ, ◌+◌, nat_lt, List, [], ◌∷◌, Option, None, Some, Result, Ok, Err, drop, length, if◌then◌else◌}
use Rattle.join_base.specs.declared.message.Message.{Message}
use Rattle.join_base.specs.declared.message.Source.TheVariants.{Feed}
use Rattle.fair_semantics.specs.declared.run.ActorRun.{ActorRun}
use Rattle.fair_semantics.specs.declared.run.Entry.{Entry}
use Rattle.fair_semantics.specs.declared.run.Run.{Run}
use Rattle.fair_semantics.specs.Linked.{count_of, same_source}
use Rattle.log_replay.specs.Kept.{entry_size, section_size}
use Rattle.log_audit.specs.declared.refusal.AuditRefusal.{AuditRefusal}
use Rattle.log_audit.specs.declared.refusal.AuditRefusal.TheVariants as refusal
use Rattle.log_audit.specs.declared.refusal.Difference.{Difference}
use Rattle.log_audit.specs.Wrong.{Feeds, Row, arrival_wrong, end_wrong, or_later, rows_for}

-- the rows that are left behind an entry
abbrev pub left_behind : ℕ → List Row → Entry → List Row
left_behind feed left entry = if same_source entry.source (Feed feed) then drop 1 left else left

-- Of the entries from this line on, where these rows of a feed are left: the first arrival that is wrong, or the end
-- line, behind so many lines of late messages.
abbrev pub link_wrong : ℕ → ℕ → ℕ → ℕ → List Row → List Entry → Option Difference
link_wrong feed late lates line left [] = end_wrong (line + lates) feed left late
link_wrong feed late lates line left (entry ∷ entries) = or_later (arrival_wrong line feed left entry) (link_wrong feed late lates (line + entry_size entry) (left_behind feed left entry) entries)

-- the one with the lesser line
abbrev pub earlier : Option Difference → Option Difference → Option Difference
earlier None second = second
earlier (Some first) None = Some first
earlier (Some first) (Some second) = if nat_lt second.line first.line then Some second else Some first

-- of the section of an actor that begins at this line, by one feed
abbrev pub link_of : ℕ → ℕ → ActorRun → ℕ → List (ℕ × Message) → Option Difference
link_of actor line own feed posts = link_wrong feed (count_of (Feed feed) own.late) (length own.late) (line + 1) (rows_for actor 0 posts) own.entries

-- by these feeds, where this was the first so far
abbrev pub links_wrong : ℕ → ℕ → ActorRun → Option Difference → ℕ → Feeds → Option Difference
links_wrong actor line own first feed [] = first
links_wrong actor line own first feed (posts ∷ feeds) = links_wrong actor line own (earlier first (link_of actor line own feed posts)) (feed + 1) feeds

abbrev pub section_wrong : Feeds → ℕ → ℕ → ActorRun → Option Difference
section_wrong feeds actor line own = links_wrong actor line own None 1 feeds

-- of the sections of the actors from this one on, of which the first begins at this line
abbrev pub sections_wrong : Feeds → ℕ → ℕ → List ActorRun → Option Difference
sections_wrong feeds actor line [] = None
sections_wrong feeds actor line (own ∷ runs) = or_later (section_wrong feeds actor line own) (sections_wrong feeds (actor + 1) (line + section_size own) runs)

-- of a run, whose first section begins at the second line
abbrev pub run_wrong : Feeds → Run → Option Difference
run_wrong feeds run = sections_wrong feeds 0 2 run.actors

-- what comparing a run with the feeds answers
abbrev pub Compares : Feeds → Run → Result (Unit {0}) AuditRefusal → Type 0
Compares feeds run (Ok done) = (run.feeds ≡ length feeds) × (run_wrong feeds run ≡ None)
Compares feeds run (Err (refusal.Log why)) = ⊥
Compares feeds run (Err (refusal.Feeds count)) = (count ≡ run.feeds) × (count ≡ length feeds → ⊥)
Compares feeds run (Err (refusal.Row difference)) = (run.feeds ≡ length feeds) × (run_wrong feeds run ≡ Some difference)
