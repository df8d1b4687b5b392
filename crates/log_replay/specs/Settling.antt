-- What is made of the runs that the fair steps over the read arrivals show: late counts, endings and stamps.
use Rattle.std.specs.Prelude.{ℕ, ◌+◌, not, nat_le, ◌||◌, List, [], ◌∷◌, Bool, ◌&&◌, nat_lt, length, map, slice_get, if◌then◌else◌}
use Rattle.join_base.specs.declared.message.Source.{Source}
use Rattle.join_base.specs.declared.message.Stamped.{Stamped}
use Rattle.script_types.specs.declared.plan.Plan.{Plan}
use Rattle.fair_semantics.specs.Fair.{rules_of, run_of, setting_of}
use Rattle.fair_semantics.specs.declared.run.ActorRun.{ActorRun}
use Rattle.fair_semantics.specs.declared.run.Ending.TheVariants as ending
use Rattle.fair_semantics.specs.declared.run.Limits.{Limits}
use Rattle.fair_semantics.specs.declared.run.Run.{Run}
use Rattle.fair_semantics.specs.Linked.{numbers_from}
use Rattle.fair_semantics.specs.Step.{is_running}
use Rattle.log_replay.specs.declared.settling.Settlement.{Settlement}
use Rattle.run_order_law.specs.Sorted.{entries_in}
use Rattle.log_posts.specs.Lates.{lates_made}
use Rattle.log_posts.specs.Posts.{link_posts}
use Rattle.log_posts.specs.Stamps.{stamps_in, with_stamps}
use Rattle.log_replay.specs.Expected.{stepped}

-- the posts to an actor from each actor, by the entries that they made
abbrev pub links_to : List ActorRun → Run → ℕ → ℕ → ℕ → List (List Stamped)
links_to made run to from n = map (λ k. link_posts to (entries_in (slice_get made k)) (entries_in (slice_get run.actors k))) (numbers_from from n)

-- ---- the run of an actor

-- a running actor with a late count above 0 was spent by it
abbrev pub settled_run : ActorRun → List (Source × ℕ) → ℕ → ActorRun
settled_run own late definitions =
    if is_running own.ending && nat_lt 0 (length late) then record { entries = own.entries; late = late; ending = ending.Spent; left = []; partials = definitions } else record own { late = late }

-- the same with its stamps
abbrev pub finished : ActorRun → Settlement → ℕ → ActorRun
finished own settlement definitions =
    let run : ActorRun = settled_run own settlement.late definitions in
    record run { entries = with_stamps settlement.stamps run.entries }

abbrev pub may_be_late : Limits → ActorRun → Bool
may_be_late limits own = not (is_running own.ending) || nat_le limits.arrivals (length own.entries)

-- what is to be made of the run of an actor, by the runs of all and its section as it was read
abbrev pub settlement_of : List ActorRun → Run → ℕ → ActorRun → ActorRun → Settlement
settlement_of made run to own read =
    let links : List (List Stamped) = links_to made run to 0 (length run.actors) in
    record { late = lates_made (may_be_late run.limits own) read.late run.feeds read.entries links; stamps = stamps_in run.version links read.entries }

-- the runs that actors show behind the fair steps over their read arrivals, without stamps
abbrev pub made_run : Plan → Run → ℕ → ActorRun
made_run plan run actor = run_of (setting_of plan actor run.limits).rules (stepped plan run actor)

abbrev pub made_runs : Plan → Run → ℕ → ℕ → List ActorRun
made_runs plan run from n = map (made_run plan run) (numbers_from from n)

-- what is to be made of the runs of actors from this one on
abbrev pub settlements_of : List ActorRun → Run → ℕ → List ActorRun → List ActorRun → List Settlement
settlements_of made run to [] reads = []
settlements_of made run to (own ∷ owns) [] = []
settlements_of made run to (own ∷ owns) (read ∷ reads) = settlement_of made run to own read ∷ settlements_of made run (to + 1) owns reads

-- how many definitions an actor has
abbrev pub definition_count : Plan → ℕ → ℕ
definition_count plan actor = length (rules_of (slice_get plan.actors actor))

abbrev pub finished_runs : Plan → ℕ → List ActorRun → List Settlement → List ActorRun
finished_runs plan to [] settlements = []
finished_runs plan to (own ∷ owns) [] = []
finished_runs plan to (own ∷ owns) (settlement ∷ settlements) = finished own settlement (definition_count plan to) ∷ finished_runs plan (to + 1) owns settlements
