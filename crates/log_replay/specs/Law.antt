-- The laws of expected runs and of lines in fault.
use Rattle.std.specs.Prelude.{◌≡◌, ℕ, List}
use Rattle.std.specs.List.{AllByRecursion, flat_map}
use Rattle.join_base.specs.declared.message.Message.{Message}
use Rattle.script_types.specs.declared.plan.Plan.{Plan}
use Rattle.script_types.specs.Typed.{IsTyped}
use Rattle.fair_semantics.specs.declared.run.Limits.{Limits}
use Rattle.fair_semantics.specs.declared.run.Run.{Run}
use Rattle.fair_semantics.specs.Fits.{PostFits, RunFits}
use Rattle.fair_semantics.specs.Linked.{IsLinked}
use Rattle.arrival_log.specs.LogText.{log_text}
use Rattle.run_fit_law.specs.FitsLaw.{RulesFit}
use Rattle.run_order_law.specs.Order.{IsScheduled}
use Rattle.log_replay.specs.Expected.{expected_run}
use Rattle.log_replay.specs.Fault.{Line, IsAccepted, lines_of}
use Rattle.log_replay.specs.Feeds.{feeds_shown}

-- the lines of a run, one behind the other, are its log text
abbrev pub LinesAreText : Type 0
LinesAreText = (plan : Plan) (run : Run) → flat_map (λ (l : Line). l.text) (lines_of plan run) ≡ log_text plan run

-- each message of the feeds fits the plan
abbrev pub AllPostsFit : Plan → List (List (ℕ × Message)) → Type 0
AllPostsFit plan feeds = AllByRecursion (AllByRecursion (PostFits plan)) feeds

-- a run that is linked to feeds that fit is its own expected run
abbrev pub LinkedIsExpected : Type 0
LinkedIsExpected = (plan : Plan) (limits : Limits) (feeds : List (List (ℕ × Message))) (run : Run) → IsTyped plan → AllPostsFit plan feeds → IsLinked plan limits feeds run → expected_run plan run ≡ run

-- no line of its log text is in fault
abbrev pub LinkedIsAccepted : Type 0
LinkedIsAccepted = (plan : Plan) (limits : Limits) (feeds : List (List (ℕ × Message))) (run : Run) → IsTyped plan → AllPostsFit plan feeds → IsLinked plan limits feeds run → IsAccepted plan run

-- a run that fits the plan, is its own expected run and has no line in fault is linked to the feeds that it shows
abbrev pub ExpectedIsLinked : Type 0
ExpectedIsLinked = (plan : Plan) (run : Run) → IsTyped plan → RunFits plan run → expected_run plan run ≡ run → IsAccepted plan run → IsLinked plan run.limits (feeds_shown run) run

-- where no line is in fault, the run and its expected run have one log text
abbrev pub AcceptedHasOneText : Type 0
AcceptedHasOneText = (plan : Plan) (run : Run) → IsAccepted plan run → log_text plan (expected_run plan run) ≡ log_text plan run

-- the fixed texts and the numbers in the rules of each actor are in their ranges
abbrev pub AllRulesFit : Plan → Limits → Type 0
AllRulesFit plan limits = (actor : ℕ) → RulesFit plan limits actor

-- the expected run of a run that fits the plan fits it too
abbrev pub ExpectedFits : Type 0
ExpectedFits = (plan : Plan) (run : Run) → IsTyped plan → AllRulesFit plan run.limits → RunFits plan run → RunFits plan (expected_run plan run)

-- where no line of its log is in fault, a run is its own expected run, its stamps too
abbrev pub AcceptedIsExpected : Type 0
AcceptedIsExpected = (plan : Plan) (run : Run) → IsTyped plan → AllRulesFit plan run.limits → RunFits plan run → IsAccepted plan run → expected_run plan run ≡ run

-- and it is linked to the feeds that it shows
abbrev pub AcceptedIsLinked : Type 0
AcceptedIsLinked = (plan : Plan) (run : Run) → IsTyped plan → AllRulesFit plan run.limits → RunFits plan run → IsAccepted plan run → IsLinked plan run.limits (feeds_shown run) run

-- with stamps it is that of one schedule of single steps
abbrev pub AcceptedIsScheduled : Type 0
AcceptedIsScheduled = (plan : Plan) (run : Run) → IsTyped plan → AllRulesFit plan run.limits → RunFits plan run → IsAccepted plan run → run.version ≡ 2 → IsScheduled plan run.limits (feeds_shown run) run
