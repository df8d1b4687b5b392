-- The entries that fair steps make of a history, and what is no matter to them.
use Rattle.std.specs.Prelude.{◌≡◌, ℕ, List, ◌++◌, Some, length, map, slice_get}
use mathlib.Core.List.{IsPrefix}
use Rattle.join_base.specs.declared.message.Message.{Message}
use Rattle.script_types.specs.declared.plan.Plan.{Plan}
use Rattle.fair_semantics.specs.declared.run.ActorRun.{ActorRun}
use Rattle.fair_semantics.specs.declared.run.Entry.{Entry}
use Rattle.fair_semantics.specs.declared.run.Limits.{Limits}
use Rattle.fair_semantics.specs.declared.run.Run.{Run}
use Rattle.fair_semantics.specs.Step.{Setting, opening}
use Rattle.fair_semantics.specs.Fair.{Sent, after_all, setting_of}
use Rattle.fair_semantics.specs.Linked.{IsLinked, arrived, posts_of, unstamped_entry}

-- the entries that the fair steps of a history make
abbrev pub entries_by : Setting → List Sent → List Entry
entries_by setting history = (after_all setting (opening 0 0) history).entries

-- the history of an actor in a run over these feeds: each arrival with the stamp of its post
abbrev pub history_in : List (List (ℕ × Message)) → Run → ℕ → ActorRun → List Sent
history_in feeds run actor own = arrived (λ source. posts_of feeds run.actors source actor) own.entries

-- ---- laws

-- the entries go on as the history does
abbrev pub EntriesGoOn : Type 0
EntriesGoOn = (setting : Setting) (before after : List Sent) → IsPrefix before after → IsPrefix (entries_by setting before) (entries_by setting after)

-- how many feeds and actors there are is no matter
abbrev pub SourcesAreNoMatter : Type 0
SourcesAreNoMatter = (setting : Setting) (feeds actors : ℕ) (history : List Sent) → (after_all setting (opening feeds actors) history).entries ≡ entries_by setting history

-- nor are messages behind a history, where as many were recorded as the history has
abbrev pub RestsAreNoMatter : Type 0
RestsAreNoMatter = (setting : Setting) (feeds actors : ℕ) (history rests : List Sent) → length (after_all setting (opening feeds actors) (history ++ rests)).entries ≡ length history
    → (after_all setting (opening feeds actors) (history ++ rests)).entries ≡ entries_by setting history

-- the entries of an actor in a linked run are those that its history makes; in version 1 they have no stamps
abbrev pub RunsShowHistories : Type 0
RunsShowHistories = (plan : Plan) (limits : Limits) (feeds : List (List (ℕ × Message))) (run : Run) → IsLinked plan limits feeds run
    → (actor : ℕ) (own : ActorRun) → slice_get run.actors actor ≡ Some own → map unstamped_entry own.entries ≡ map unstamped_entry (entries_by (setting_of plan actor limits) (history_in feeds run actor own))
