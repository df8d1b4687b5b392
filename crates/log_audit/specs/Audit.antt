-- What an audit of a log answers.
use Rattle.std.specs.Prelude.{◌≡◌, ℕ, List, length, Some, Result, Ok, Err}
use Rattle.script_types.specs.declared.plan.Plan.{Plan}
use Rattle.fair_semantics.specs.declared.run.Run.{Run}
use Rattle.fair_semantics.specs.Linked.{IsLinked}
use Rattle.run_order_law.specs.Order.{IsScheduled}
use Rattle.log_reader.specs.Log.{IsLogOf}
use Rattle.log_replay.specs.Check.{Checks, arrival_count}
use Rattle.log_replay.specs.Fault.{IsAccepted}
use Rattle.log_audit.specs.declared.refusal.AuditRefusal.{AuditRefusal}
use Rattle.log_audit.specs.declared.refusal.AuditRefusal.TheVariants as refusal
use Rattle.log_audit.specs.declared.refusal.Difference.{Difference}
use Rattle.log_audit.specs.Wrong.{Feeds, first_difference}

-- the bytes are the log of a run no line of whose log is in fault, and that has so many arrivals; it is linked to these
-- feeds, and with stamps it is that of one schedule of single steps over them
pub record IsAudited (plan : Plan) (bytes : List ℕ) (feeds : Feeds) (count : ℕ) : Type 0 where
  pub run : Run
  pub log : IsLogOf plan bytes run
  pub accepted : IsAccepted plan run
  pub counted : count ≡ arrival_count run
  pub linked : IsLinked plan run.limits feeds run
  pub scheduled : run.version ≡ 2 → IsScheduled plan run.limits feeds run

-- the bytes are the log of a run no line of whose log is in fault, and it is not linked to these feeds
pub record IsOfOthers (plan : Plan) (bytes : List ℕ) (feeds : Feeds) (run : Run) : Type 0 where
  pub log : IsLogOf plan bytes run
  pub accepted : IsAccepted plan run
  pub unlinked : IsLinked plan run.limits feeds run → ⊥

-- since it has another number of feeds
pub record HasOtherFeeds (plan : Plan) (bytes : List ℕ) (feeds : Feeds) (count : ℕ) : Type 0 where
  pub run : Run
  pub others : IsOfOthers plan bytes feeds run
  pub counted : count ≡ run.feeds
  pub apart : count ≡ length feeds → ⊥

-- since this line is the first that is not that of the feeds
pub record HasOtherRow (plan : Plan) (bytes : List ℕ) (feeds : Feeds) (difference : Difference) : Type 0 where
  pub run : Run
  pub others : IsOfOthers plan bytes feeds run
  pub many : run.feeds ≡ length feeds
  pub first : first_difference plan feeds run ≡ Some difference

-- audited with the number of arrivals; a log that is refused by itself, or there was no memory; or one of other feeds
abbrev pub Audits : Plan → List ℕ → Feeds → Result ℕ AuditRefusal → Type 0
Audits plan bytes feeds (Ok count) = IsAudited plan bytes feeds count
Audits plan bytes feeds (Err (refusal.Log why)) = Checks plan bytes (Err why)
Audits plan bytes feeds (Err (refusal.Feeds count)) = HasOtherFeeds plan bytes feeds count
Audits plan bytes feeds (Err (refusal.Row difference)) = HasOtherRow plan bytes feeds difference
