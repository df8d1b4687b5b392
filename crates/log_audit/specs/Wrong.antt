-- The lines of a run that are not those of its feeds.
use Rattle.std.specs.Prelude.{ℕ, ◌+◌, ◌-◌, ◌^◌, min, List, [], ◌∷◌, ◌==◌, Option, None, Some, drop, length, slice_get, if◌then◌else◌}
use Rattle.std.specs.List.{cons_option}
use Rattle.join_base.specs.declared.message.Message.{Message}
use Rattle.join_base.specs.declared.message.Source.TheVariants.{Feed}
use Rattle.script_types.specs.declared.plan.Plan.{Plan}
use Rattle.fair_semantics.specs.declared.run.Entry.{Entry}
use Rattle.fair_semantics.specs.declared.run.Run.{Run}
use Rattle.fair_semantics.specs.Linked.{count_of, same_source, taken_from}
use Rattle.log_posts.specs.Same.{same_message}
use Rattle.log_replay.specs.Expected.{read_entries, read_late}
use Rattle.log_replay.specs.Fault.{Line, LineKind, arrives, ends, other, lines_of}
use Rattle.log_audit.specs.declared.refusal.Difference.{Difference}

-- the rows of each feed: the actor that a row is for, and its message
abbrev pub Feeds : Type 0
Feeds = List (List (ℕ × Message))

-- ---- the rows of a feed for an actor

-- a row, by its number among all rows of the feed, from 1 on
pub record Row : Type 0 where
  pub number : ℕ
  pub message : Message

abbrev pub row_for : ℕ → ℕ → (ℕ × Message) → Option Row
row_for actor number post = if post.0 == actor then Some record { number = number; message = post.1 } else None

-- the rows for an actor, where so many stand before these
abbrev pub rows_for : ℕ → ℕ → List (ℕ × Message) → List Row
rows_for actor before [] = []
rows_for actor before (post ∷ posts) = cons_option (row_for actor (before + 1) post) (rows_for actor (before + 1) posts)

-- the rows of a feed for an actor that are left behind the arrivals of these entries
abbrev pub rows_left : ℕ → List (ℕ × Message) → ℕ → List Entry → List Row
rows_left feed posts actor entries = drop (length (taken_from (Feed feed) entries)) (rows_for actor 0 posts)

-- ---- what is wrong at a line

abbrev pub number_of : Option Row → Option ℕ
number_of None = None
number_of (Some row) = Some row.number

abbrev pub differs : ℕ → ℕ → Option Row → Difference
differs line feed row = record { line = line; feed = feed; row = number_of row }

-- the message that arrived is not that of the next row, or there is none
abbrev pub refused : ℕ → ℕ → Option Row → Message → Option Difference
refused line feed None message = Some (differs line feed None)
refused line feed (Some row) message = if same_message row.message message then None else Some (differs line feed (Some row))

-- at an arrival, where these rows of the feed are left
abbrev pub arrival_wrong : ℕ → ℕ → List Row → Entry → Option Difference
arrival_wrong line feed left entry = if same_source entry.source (Feed feed) then refused line feed (slice_get left 0) entry.message else None

-- at the end of a section, where these rows of the feed are left: as many messages of it are late, counted up to the
-- last 64-bit number
abbrev pub end_wrong : ℕ → ℕ → List Row → ℕ → Option Difference
end_wrong line feed left late = if late == min (length left) (2 ^ 64 - 1) then None else Some (differs line feed (slice_get left 0))

-- at the line of this number, by one feed
abbrev pub wrong_by : Run → ℕ → ℕ → List (ℕ × Message) → LineKind → Option Difference
wrong_by run line feed posts (arrives actor before entry) = arrival_wrong line feed (rows_left feed posts actor before) entry
wrong_by run line feed posts (ends actor) = end_wrong line feed (rows_left feed posts actor (read_entries run actor)) (count_of (Feed feed) (read_late run actor))
wrong_by run line feed posts other = None

abbrev pub or_later : Option Difference → Option Difference → Option Difference
or_later None later = later
or_later (Some first) later = Some first

-- by the first of these feeds, of which the first has this number
abbrev pub wrong_from : Run → ℕ → Feeds → ℕ → LineKind → Option Difference
wrong_from run feed [] line mark = None
wrong_from run feed (posts ∷ feeds) line mark = or_later (wrong_by run line feed posts mark) (wrong_from run (feed + 1) feeds line mark)

-- ---- the first line that is wrong

-- the first of these lines, of which the first has this number
abbrev pub first_wrong : (ℕ → LineKind → Option Difference) → ℕ → List Line → Option Difference
first_wrong wrong number [] = None
first_wrong wrong number (line ∷ lines) = or_later (wrong number line.mark) (first_wrong wrong (number + 1) lines)

-- the first line of a run that is not that of these feeds, counted from 1
abbrev pub first_difference : Plan → Feeds → Run → Option Difference
first_difference plan feeds run = first_wrong (wrong_from run 1 feeds) 1 (lines_of plan run)
