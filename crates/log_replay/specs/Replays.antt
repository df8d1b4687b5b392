-- What the replay of a log answers.
use Rattle.std.specs.Prelude.{◌≡◌, ℕ, List, length, Result, Ok, Err}
use Rattle.script_types.specs.declared.plan.Plan.{Plan}
use Rattle.log_reader.specs.declared.fault.LogFault.{LogFault}
use Rattle.log_reader.specs.declared.fault.LogFault.TheVariants.{Bad, NoMemory}
use Rattle.log_reader.specs.Log.{IsLogOf, IsNoLog}
use Rattle.log_reader.specs.Places.{IsFaultLine}
use Rattle.log_replay.specs.declared.shared.Replayed.{Replayed}
use Rattle.log_replay.specs.Law.{AllRulesFit}
use Rattle.log_replay.specs.Shared.{kept_runs}

-- the bytes are the log of the run, with what is kept of what its actors make
pub record IsReplayed (plan : Plan) (bytes : List ℕ) (replayed : Replayed) : Type 0 where
  pub log : IsLogOf plan bytes replayed.run
  pub made : replayed.made ≡ kept_runs plan replayed.run 0 (length plan.actors)
  pub texts : AllRulesFit plan replayed.run.limits

-- that run; or the line at fault, where there is none; or there was no memory
abbrev pub Replays : Plan → List ℕ → Result Replayed LogFault → Type 0
Replays plan bytes (Ok replayed) = IsReplayed plan bytes replayed
Replays plan bytes (Err (Bad line)) = IsNoLog plan bytes × IsFaultLine plan bytes line
Replays plan bytes (Err NoMemory) = Unit {0}
