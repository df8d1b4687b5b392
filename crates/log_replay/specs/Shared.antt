-- The runs of actors beside those that were read: what is the same is kept once.
use Rattle.std.specs.Prelude.{ℕ, ◌+◌, List, [], ◌∷◌, Bool, true, false, Option, None, Some, map, if◌then◌else◌}
use Rattle.fair_semantics.specs.declared.run.ActorRun.{ActorRun}
use Rattle.fair_semantics.specs.declared.run.Entry.{Entry}
use Rattle.fair_semantics.specs.declared.run.Run.{Run}
use Rattle.log_replay.specs.declared.shared.Shared.{Shared}
use Rattle.fair_semantics.specs.Linked.{numbers_from}
use Rattle.fair_semantics.specs.Step.{is_running}
use Rattle.log_replay.specs.Expected.{read_entries, with_entries}
use Rattle.log_posts.specs.Same.{same_entries}
use Rattle.log_posts.specs.Stamps.{with_stamps}
use Rattle.log_replay.specs.Settling.{definition_count, made_run, settled_run, settlement_of}
use Rattle.log_replay.specs.declared.settling.Settlement.{Settlement}
use Rattle.script_types.specs.declared.plan.Plan.{Plan}

-- the run that is meant
abbrev pub shown : ActorRun → Shared → ActorRun
shown read shared = if shared.as_read then with_entries shared.own (with_stamps shared.stamps read.entries) else shared.own

-- the stamps that the entries but for their stamps are shown with, as far as these are not their own
abbrev pub shown_stamps : Shared → List ℕ
shown_stamps shared = if shared.as_read then shared.stamps else []

-- those of all actors
abbrev pub shown_all : List ActorRun → List Shared → List ActorRun
shown_all [] runs = []
shown_all (read ∷ reads) [] = []
shown_all (read ∷ reads) (shared ∷ runs) = shown read shared ∷ shown_all reads runs

-- a run whose entries are the read ones but for their stamps, and are let go of
abbrev pub without_entries : ActorRun → Shared
without_entries own = record { as_read = true; stamps = []; own = with_entries own [] }

-- a run with the entries that were made
abbrev pub whole : ActorRun → Shared
whole own = record { as_read = false; stamps = []; own = own }

-- a run with the entries let go of where they are the read ones but for their stamps
abbrev pub kept : List Entry → ActorRun → Shared
kept read own = if same_entries own.entries read then without_entries own else whole own

-- the entries but for their stamps
abbrev pub plain : ActorRun → Shared → List Entry
plain read shared = if shared.as_read then read.entries else shared.own.entries

abbrev pub plain_at : Option ActorRun → Option Shared → List Entry
plain_at None shared = []
plain_at (Some read) None = []
plain_at (Some read) (Some shared) = plain read shared

-- whether the actor of this run runs on
abbrev pub runs_at : Option ActorRun → Option Shared → Bool
runs_at None shared = false
runs_at (Some read) None = false
runs_at (Some read) (Some shared) = is_running shared.own.ending

-- ---- settled

abbrev pub finished_shared : Shared → Settlement → ℕ → Shared
finished_shared shared settlement definitions =
    let own : ActorRun = settled_run shared.own settlement.late definitions in
    if shared.as_read then record { as_read = shared.as_read; stamps = settlement.stamps; own = own }
    else record { as_read = shared.as_read; stamps = []; own = with_entries own (with_stamps settlement.stamps own.entries) }

abbrev pub finished_all : Plan → ℕ → List Shared → List Settlement → List Shared
finished_all plan to [] settlements = []
finished_all plan to (own ∷ owns) [] = []
finished_all plan to (own ∷ owns) (settlement ∷ settlements) = finished_shared own settlement (definition_count plan to) ∷ finished_all plan (to + 1) owns settlements

-- what is to be made of the runs of actors from this one on, by those of all
abbrev pub settlements_shown : List ActorRun → Run → ℕ → List Shared → List ActorRun → List Settlement
settlements_shown made run to [] reads = []
settlements_shown made run to (own ∷ owns) [] = []
settlements_shown made run to (own ∷ owns) (read ∷ reads) = settlement_of made run to (shown read own) read ∷ settlements_shown made run (to + 1) owns reads

-- ---- a whole run

-- the stamp of a place, or the other where there is none
abbrev pub stamp_or : Option ℕ → ℕ → ℕ
stamp_or None other = other
stamp_or (Some stamp) other = stamp

abbrev pub shown_run : Run → List Shared → Run
shown_run run runs = record run { actors = shown_all run.actors runs }

-- the runs of the fair steps, with all their entries
abbrev pub whole_run : Plan → Run → ℕ → Shared
whole_run plan run actor = whole (made_run plan run actor)

abbrev pub whole_runs : Plan → Run → ℕ → ℕ → List Shared
whole_runs plan run from n = map (whole_run plan run) (numbers_from from n)

abbrev pub own_runs : List Shared → List ActorRun
own_runs runs = map (λ (shared : Shared). shared.own) runs

-- what is kept of the runs of the fair steps
abbrev pub kept_run : Plan → Run → ℕ → Shared
kept_run plan run actor = kept (read_entries run actor) (made_run plan run actor)

abbrev pub kept_runs : Plan → Run → ℕ → ℕ → List Shared
kept_runs plan run from n = map (kept_run plan run) (numbers_from from n)
