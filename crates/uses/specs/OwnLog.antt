-- What a log shows of the firings of its run.
use Rattle.std.specs.Prelude.{◌≡◌, ℕ, List, Bool, false, true, Option, None, Some, Result, Ok, Err, count_by, map}
use Rattle.script_types.specs.declared.plan.Plan.{Plan}
use Rattle.fair_semantics.specs.declared.run.ActorRun.{ActorRun}
use Rattle.fair_semantics.specs.declared.run.Entry.{Entry}
use Rattle.fair_semantics.specs.declared.run.Firing.{Firing}
use Rattle.fair_semantics.specs.declared.run.Run.{Run}
use Rattle.fair_semantics.specs.Linked.{IsLinked}
use Rattle.log_reader.specs.Log.{IsLogOf}
use Rattle.log_replay.specs.declared.refusal.LogRefusal.{LogRefusal}
use Rattle.log_replay.specs.Check.{Checks}
use Rattle.log_replay.specs.Feeds.{feeds_shown}

abbrev pub is_firing : Option Firing → Bool
is_firing None = false
is_firing (Some firing) = true

abbrev pub has_fired : Entry → Bool
has_fired entry = is_firing entry.firing

-- how many arrivals of an actor fired
abbrev pub firing_count : ActorRun → ℕ
firing_count own = count_by has_fired own.entries

-- the bytes are the log of a run that is linked to the feeds that it shows, and whose actors fired so often
pub record AreFiringCounts (plan : Plan) (log : List ℕ) (counts : List ℕ) : Type 0 where
  pub run : Run
  pub of_log : IsLogOf plan log run
  pub linked : IsLinked plan run.limits (feeds_shown run) run
  pub counted : counts ≡ map firing_count run.actors

-- the counts, or why the log is refused
abbrev pub Counts : Plan → List ℕ → Result (List ℕ) LogRefusal → Type 0
Counts plan log (Ok counts) = AreFiringCounts plan log counts
Counts plan log (Err refusal) = Checks plan log (Err refusal)
