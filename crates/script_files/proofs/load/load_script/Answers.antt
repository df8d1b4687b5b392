use Rattle.script_types.specs.declared.plan.Plan.{Plan}
use Rattle.script_files.specs.Verdict.{ScriptGives}
use Rattle.script_files.proofs.LoadLemmas.{quiet_cause, script_loaded, script_unfetched}
use Rattle.script_files.proofs.load.load_script.Goals as goal

pub returns-in-Ok-clause-told : goal.returns-in-Ok-clause-told
returns-in-Ok-clause-told g c =
    script_loaded Plan ScriptGives (g.I.Inputs.tells c.args.inputs.now) (g.I.Inputs.tells c.fetch.new.self) c.args.name.now c.in-Ok.file c.read_plan.result (rw c.as_str.ensures.same at c.in-Ok.ensures.told) c.in-Ok.ensures.within (rw c.bytes.ensures.same at c.read_plan.ensures.plan)

pub returns-in-Ok-clause-cause : goal.returns-in-Ok-clause-cause
returns-in-Ok-clause-cause g c = quiet_cause (g.I.Inputs.faults c.args.inputs.now) (g.I.Inputs.faults c.fetch.new.self) c.read_plan.result c.in-Ok.ensures.cause c.read_plan.ensures.read

pub returns-in-Err-clause-told : goal.returns-in-Err-clause-told
returns-in-Err-clause-told g c =
    rw c.fetch_stop.ensures (script_unfetched Plan ScriptGives (g.I.Inputs.tells c.args.inputs.now) (g.I.Inputs.tells c.fetch.new.self) c.args.name.now c.in-Err.fault (rw c.as_str.ensures.same at c.in-Err.ensures.told))
