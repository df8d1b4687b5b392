-- The expected run of a run that was read: what its actors do, by the fair step, with the arrivals that it shows.
use Rattle.std.specs.Prelude.{ℕ, ◌-◌, ◌^◌, min, List, [], ◌∷◌, Bool, not, ◌&&◌, ◌||◌, ◌==◌, nat_le, Option, None, Some, map, length, slice_get, if◌then◌else◌}
use Rattle.std.specs.List.{flat_map, list_any}
use Rattle.join_base.specs.declared.message.Stamped.{Stamped}
use Rattle.join_base.specs.declared.message.Source.{Source}
use Rattle.join_base.specs.declared.message.Source.TheVariants.{Feed, Actor}
use Rattle.script_types.specs.declared.plan.Plan.{Plan}
use Rattle.fair_semantics.specs.declared.run.Limits.{Limits}
use Rattle.fair_semantics.specs.declared.run.Ending.TheVariants as ending
use Rattle.fair_semantics.specs.declared.run.Entry.{Entry}
use Rattle.fair_semantics.specs.declared.run.ActorRun.{ActorRun}
use Rattle.fair_semantics.specs.declared.run.Run.{Run}
use Rattle.join_base.specs.Late.{Late}
use Rattle.fair_semantics.specs.Step.{State, is_running}
use Rattle.fair_semantics.specs.Fair.{Sent, fair, run_of, setting_of}
use Rattle.fair_semantics.specs.Linked.{arrived, count_of, entry_posts, numbers_from, taken_from, unstamped_entry}
use Rattle.run_order_law.specs.Sorted.{entries_in}
use Rattle.log_posts.specs.Lates.{count_where}
use Rattle.log_posts.specs.Posts.{stamped_as, stamped_anew}
use Rattle.log_posts.specs.Stamps.{next_stamp}

-- ---- the section of an actor, as it was read

abbrev pub late_in : Option ActorRun → List (Source × ℕ)
late_in None = []
late_in (Some own) = own.late

abbrev pub read_entries : Run → ℕ → List Entry
read_entries run actor = entries_in (slice_get run.actors actor)

abbrev pub read_late : Run → ℕ → List (Source × ℕ)
read_late run actor = late_in (slice_get run.actors actor)

-- ---- what the actor does with these arrivals

-- an arrival that was read, without its stamp
abbrev pub bare : Entry → Sent
bare entry = (entry.source, record { message = entry.message; stamp = 0 })

-- the state after the fair steps over the arrivals, which leave no entry where they are late
abbrev pub stepped : Plan → Run → ℕ → State
stepped plan run actor = fair plan actor run.limits run.feeds (map bare (read_entries run actor))

-- the posts from one actor to another by its expected entries, each with the stamp that was read at the entry that
-- makes it
abbrev pub expected_posts : Plan → Run → ℕ → ℕ → List Stamped
expected_posts plan run from to = flat_map (entry_posts to) (stamped_as (stepped plan run from).entries (read_entries run from))

-- ---- the late counts and the ending

-- how many posts of one actor to another are beyond those that arrived, counted up to the last 64-bit number
abbrev pub posts_beyond : Plan → Run → ℕ → ℕ → ℕ
posts_beyond plan run from to = min (length (expected_posts plan run from to) - length (taken_from (Actor from) (read_entries run to))) (2 ^ 64 - 1)

-- no message can be late at an actor that runs and is not full
abbrev pub may_be_late : Limits → State → Bool
may_be_late limits state = not (is_running state.ending) || nat_le limits.arrivals (length state.entries)

-- of the feeds the counts that were read, and of the actors their posts beyond
abbrev pub expected_late : Plan → Run → ℕ → Late
expected_late plan run actor =
    let late : Bool = may_be_late run.limits (stepped plan run actor) in
    record {
      feeds = map (λ k. count_where late (count_of (Feed k) (read_late run actor))) (numbers_from 1 run.feeds);
      actors = map (λ from. count_where late (posts_beyond plan run from actor)) (numbers_from 0 (length plan.actors));
    }

abbrev pub some_late : Late → Bool
some_late late = list_any (λ n. not (n == 0)) late.feeds || list_any (λ n. not (n == 0)) late.actors

-- the state with these late counts: where the actor runs and one is above 0, it is full, and the late message has spent
-- it
abbrev pub settled : State → Late → State
settled state late =
    if is_running state.ending && some_late late then record { entries = state.entries; live = []; ending = ending.Spent; late = late }
    else record { entries = state.entries; live = state.live; ending = state.ending; late = late }

-- ---- the stamps

-- what an actor's sources sent it, as far as stamps go: a feed's messages carry none
abbrev pub stamps_sent : Plan → Run → ℕ → Source → List Stamped
stamps_sent plan run actor (Feed k) = []
stamps_sent plan run actor (Actor from) = expected_posts plan run from actor

-- the entries of these arrivals, where this was the stamp before them
abbrev pub restamped : ℕ → List Sent → List Entry → List Entry
restamped before sent [] = []
restamped before [] (entry ∷ more) = []
restamped before (one ∷ sent) (entry ∷ more) =
    let stamp : ℕ = next_stamp before one.1.stamp in
    stamped_anew entry stamp ∷ restamped stamp sent more

-- version 1 has no stamps
abbrev pub stamped_in : ℕ → List Sent → List Entry → List Entry
stamped_in version sent entries = if version == 1 then map unstamped_entry entries else restamped 0 sent entries

-- ---- the run

abbrev pub with_entries : ActorRun → List Entry → ActorRun
with_entries own entries = record own { entries = entries }

abbrev pub unstamped_actor : Plan → Run → ℕ → ActorRun
unstamped_actor plan run actor = run_of (setting_of plan actor run.limits).rules (settled (stepped plan run actor) (expected_late plan run actor))

abbrev pub expected_actor : Plan → Run → ℕ → ActorRun
expected_actor plan run actor =
    let own : ActorRun = unstamped_actor plan run actor in
    with_entries own (stamped_in run.version (arrived (stamps_sent plan run actor) (read_entries run actor)) own.entries)

-- the run keeps the version, the limits and the feeds that were read
abbrev pub expected_run : Plan → Run → Run
expected_run plan run = record { version = run.version; limits = run.limits; feeds = run.feeds; actors = map (expected_actor plan run) (numbers_from 0 (length plan.actors)) }
