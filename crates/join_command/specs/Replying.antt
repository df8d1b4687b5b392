-- How a reply stands to the verdict.
use Rattle.std.specs.Prelude.{◌≡◌, ℕ, ◌≤◌, List, ◌++◌, length, Option, None, Some, Result, Ok, Err}
use Rattle.std.specs.List.{AllByRecursion}
use Rattle.join_base.specs.Outside.{Files, Told}
use Rattle.script_types.specs.declared.plan.Plan.{Plan}
use Rattle.script_types.specs.Typed.{IsTyped}
use Rattle.fair_semantics.specs.declared.run.Limits.{Limits}
use Rattle.fair_semantics.specs.Fits.{IsFrom1To, PostFits}
use Rattle.command_words.specs.Command.{Command}
use Rattle.command_words.specs.Ranges.{AreInRange}
use Rattle.join_command.specs.declared.reply.Reply.{Reply}
use Rattle.join_command.specs.declared.reply.Reply.TheVariants as reply
use Rattle.script_files.specs.declared.stop.Stop.{Stop}
use Rattle.script_files.specs.Loading.{stopped_by}
use Rattle.script_files.specs.Verdict.{Feeds, Verdict, Accepts, Checks, Lints, Loads, Asks, Runs, Watches}
use Rattle.join_command.specs.Verdict.{MayAsk, OfCommand, limits_of}

-- a well typed plan, limits in their range, and 1 to 16 feeds whose posts fit the plan
pub record AreRunParts (plan : Plan) (limits : Limits) (feeds : Feeds) : Type 0 where
  pub typed : IsTyped plan
  pub arrivals : IsFrom1To 1000000 limits.arrivals
  pub partials : IsFrom1To 1000000 limits.partials
  pub feed_count : IsFrom1To 16 (length feeds)
  pub fits : AllByRecursion (AllByRecursion (PostFits plan)) feeds

abbrev pub verdict_of : Reply → Verdict
verdict_of (reply.Check text) = Checks text
verdict_of (reply.Lint text) = Lints text
verdict_of (reply.Run plan options feeds) = Runs plan (limits_of options) feeds
verdict_of (reply.Ask plan options feeds) = Asks plan (limits_of options) feeds
verdict_of (reply.Watch plan options feeds monitors) = Watches plan (limits_of options) feeds
verdict_of (reply.Load rows) = Loads rows
verdict_of (reply.Accepted arrivals) = Accepts arrivals

-- a plan that runs has its parts and numbers in their ranges, and feeds of the building have 1 to 20,000 rows
abbrev pub IsRunnable : Reply → Type 0
IsRunnable (reply.Check text) = Unit {0}
IsRunnable (reply.Lint text) = Unit {0}
IsRunnable (reply.Run plan options feeds) = AreRunParts plan (limits_of options) feeds × AreInRange options
IsRunnable (reply.Ask plan options feeds) = AreRunParts plan (limits_of options) feeds × AreInRange options
IsRunnable (reply.Watch plan options feeds monitors) = AreRunParts plan (limits_of options) feeds × AreInRange options × IsFrom1To 8 monitors
IsRunnable (reply.Load rows) = (1 ≤ rows) × (rows ≤ 20000)
IsRunnable (reply.Accepted arrivals) = Unit {0}

-- the verdict of a command, where there is one
abbrev pub OfStop : Files → Command → Option Verdict → Type 0
OfStop files command None = Unit {0}
OfStop files command (Some verdict) = OfCommand files command verdict

abbrev pub replied_with : Result Reply Stop → Option Verdict
replied_with (Ok answer) = Some (verdict_of answer)
replied_with (Err why) = stopped_by why

-- the inputs hold what they held, names of the command were asked in their order, and the reply is the verdict
pub record Replies (command : Command) (before now : Told) (result : Result Reply Stop) : Type 0 where
  pub asked : List (List ℕ)
  pub told_is : now ≡ record { files = before.files; asked = before.asked ++ asked }
  pub may_ask : MayAsk before.files command asked
  pub verdict : OfStop before.files command (replied_with result)
