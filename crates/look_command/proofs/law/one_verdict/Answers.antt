use Rattle.join_command.proofs.VerdictLemmas.{one_verdict as usual_verdict}
use Rattle.look_command.proofs.VerdictLemmas.{one_verdict}
use Rattle.look_command.proofs.law.one_verdict.Goals as goal

pub returns : goal.returns
returns c =
    let script = c.one_script.ensures in
    one_verdict
    (record {
      verdict = usual_verdict (record { plan = script.plan; no_plan = script.both; fault = script.fault; log_run = c.one_run.ensures; log_fault = c.one_fault.ensures });
      plan = script.plan;
    })
