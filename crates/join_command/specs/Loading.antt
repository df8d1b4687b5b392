-- What loading a log answers, where it stands to what the inputs hold.
use Rattle.std.specs.Prelude.{ℕ, List, Option, None, Some, Result, Ok, Err}
use Rattle.join_base.specs.Outside.{Told}
use Rattle.script_types.specs.declared.plan.Plan.{Plan}
use Rattle.script_files.specs.declared.stop.Stop.{Stop}
use Rattle.script_files.specs.Files.{File, log_of}
use Rattle.script_files.specs.Verdict.{Verdict, Accepts}
use Rattle.join_command.specs.Verdict.{OfLog, OfLogBytes}
use Rattle.script_files.specs.Loading.{stopped_by, Asks}

-- how many arrivals an accepted log has, or why there is no answer
abbrev pub log_answer : Result ℕ Stop → Option Verdict
log_answer (Ok arrivals) = Some (Accepts arrivals)
log_answer (Err why) = stopped_by why

-- nothing, or what the bytes of a log come to
abbrev pub ReadsLogBytes : Plan → List ℕ → Option Verdict → Type 0
ReadsLogBytes plan bytes None = Unit {0}
ReadsLogBytes plan bytes (Some verdict) = OfLogBytes plan bytes verdict

abbrev pub ReadsLog : Plan → File → Option Verdict → Type 0
ReadsLog plan file None = Unit {0}
ReadsLog plan file (Some verdict) = OfLog plan file verdict

pub record LoadsLog (before now : Told) (plan : Plan) (name : List ℕ) (result : Result ℕ Stop) : Type 0 where
  pub asks : Asks before now name result
  pub answer : ReadsLog plan (log_of before.files name) (log_answer result)
