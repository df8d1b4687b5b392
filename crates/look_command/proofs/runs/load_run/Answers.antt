use Rattle.script_files.proofs.LoadLemmas.{quiet_cause}
use Rattle.look_command.proofs.RunLemmas.{run_loaded, run_unfetched}
use Rattle.look_command.proofs.runs.load_run.Goals as goal

pub returns-in-Ok-clause-told : goal.returns-in-Ok-clause-told
returns-in-Ok-clause-told g c =
    run_loaded (g.I.Inputs.tells c.args.inputs.now) (g.I.Inputs.tells c.fetch.new.self) c.args.plan.now c.args.name.now c.in-Ok.file c.read_run.result (rw c.as_str.ensures.same at c.in-Ok.ensures.told) c.in-Ok.ensures.within (rw c.bytes.ensures.same at c.read_run.ensures.run)

pub returns-in-Ok-clause-cause : goal.returns-in-Ok-clause-cause
returns-in-Ok-clause-cause g c = quiet_cause (g.I.Inputs.faults c.args.inputs.now) (g.I.Inputs.faults c.fetch.new.self) c.read_run.result c.in-Ok.ensures.cause c.read_run.ensures.read

pub returns-in-Err-clause-told : goal.returns-in-Err-clause-told
returns-in-Err-clause-told g c =
    rw c.fetch_stop.ensures (run_unfetched (g.I.Inputs.tells c.args.inputs.now) (g.I.Inputs.tells c.fetch.new.self) c.args.plan.now c.args.name.now c.in-Err.fault (rw c.as_str.ensures.same at c.in-Err.ensures.told))
