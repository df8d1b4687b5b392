-- The run that was read is the one that was checked.
use Rattle.std.proofs.Common.{◌≡◌, ◌∙◌, ℕ, List, map, ap}
use Rattle.script_types.specs.declared.plan.Plan.{Plan}
use Rattle.script_types.specs.Typed.{IsTyped}
use Rattle.fair_semantics.specs.declared.run.Run.{Run}
use Rattle.log_reader.specs.Log.{IsLogOf, LogsAreOneRun}
use Rattle.log_replay.specs.Check.{IsAcceptedLog}
use Rattle.uses.specs.OwnLog.{AreFiringCounts, firing_count}

pub counts_read : (plan : Plan) (log : List ℕ) (arrivals : ℕ) (run : Run) (counts : List ℕ) → LogsAreOneRun → IsTyped plan → IsAcceptedLog plan log arrivals → IsLogOf plan log run
    → counts ≡ map firing_count run.actors → AreFiringCounts plan log counts
counts_read plan log arrivals run counts one typed accepted read are = record {
  run = accepted.run;
  of_log = accepted.log;
  linked = accepted.linked;
  counted = are ∙ ap (λ (r : Run). map firing_count r.actors) (one plan log run accepted.run typed read accepted.log);
}
