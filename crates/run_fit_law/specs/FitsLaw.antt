-- What the fair semantics makes of messages that fit fits the plan.
use Rattle.std.specs.Prelude.{◌≡◌, ℕ, List, Some, length, true, slice_get}
use Rattle.std.specs.List.{AllByRecursion}
use Rattle.script_types.specs.declared.plan.Plan.{Plan}
use Rattle.script_types.specs.Typed.{IsTyped}
use Rattle.fair_semantics.specs.declared.run.Limits.{Limits}
use Rattle.fair_semantics.specs.declared.run.ActorRun.{ActorRun}
use Rattle.fair_semantics.specs.declared.run.Run.{Run}
use Rattle.fair_semantics.specs.Fair.{Sent, fair_run, setting_of}
use Rattle.fair_semantics.specs.Fits.{ActorRunFits, IsFrom1To, RuleFits, RunFits, SourceFits, ValueFits, has_reply}
use Rattle.fair_semantics.specs.Linked.{in_version}

-- a message as an actor is given it: its source exists, and its values are in their ranges
pub record SentFits (plan : Plan) (feeds : ℕ) (sent : Sent) : Type 0 where
  pub source : SourceFits plan feeds sent.0
  pub values : AllByRecursion ValueFits sent.1.message.fields

-- the version is 1 or 2, and 2 where a body of the plan has a reply
pub record VersionFits (plan : Plan) (version : ℕ) : Type 0 where
  pub known : IsFrom1To 2 version
  pub replies : has_reply plan ≡ true → version ≡ 2

pub record LimitsFit (limits : Limits) : Type 0 where
  pub arrivals : IsFrom1To 1000000 limits.arrivals
  pub partials : IsFrom1To 1000000 limits.partials

-- the fixed texts and the numbers in the rules of an actor are in their ranges
abbrev pub RulesFit : Plan → Limits → ℕ → Type 0
RulesFit plan limits actor = AllByRecursion RuleFits (setting_of plan actor limits).rules

-- whatever messages an actor of a well typed plan is given, of which each fits or only its kind and the types of its
-- fields do not, its run fits
abbrev pub FairRunFits : Type 0
FairRunFits = (plan : Plan) (actor : ℕ) (limits : Limits) (version feeds : ℕ) (sent : List Sent) → IsTyped plan → RulesFit plan limits actor → VersionFits plan version → LimitsFit limits
    → AllByRecursion (SentFits plan feeds) sent → ActorRunFits plan version feeds (in_version version (fair_run plan actor limits feeds sent))

-- an actor's run in a run is what the fair semantics makes of such messages
pub record IsFairRun (plan : Plan) (run : Run) (actor : ℕ) (own : ActorRun) : Type 0 where
  pub rules : RulesFit plan run.limits actor
  pub sent : List Sent
  pub fitting : AllByRecursion (SentFits plan run.feeds) sent
  pub same : own ≡ in_version run.version (fair_run plan actor run.limits run.feeds sent)

-- a run with such a run of each actor fits
abbrev pub FairRunsFit : Type 0
FairRunsFit = (plan : Plan) (run : Run) → IsTyped plan → VersionFits plan run.version → LimitsFit run.limits → IsFrom1To 16 run.feeds → length run.actors ≡ length plan.actors
    → ((actor : ℕ) (own : ActorRun) → slice_get run.actors actor ≡ Some own → IsFairRun plan run actor own) → RunFits plan run
