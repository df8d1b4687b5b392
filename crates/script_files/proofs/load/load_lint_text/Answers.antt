use Rattle.std.proofs.Common.{ℕ, List}
use Rattle.script_lint.specs.LintText.{lint_text}
use Rattle.script_files.specs.Verdict.{TextGives}
use Rattle.script_files.proofs.LoadLemmas.{quiet_cause, script_loaded, script_unfetched}
use Rattle.script_files.proofs.load.load_lint_text.Goals as goal

pub returns-in-Ok-clause-told : goal.returns-in-Ok-clause-told
returns-in-Ok-clause-told g c =
    script_loaded (List ℕ) (TextGives lint_text) (g.I.Inputs.tells c.args.inputs.now) (g.I.Inputs.tells c.fetch.new.self) c.args.name.now c.in-Ok.file c.read_lint_text.result (rw c.as_str.ensures.same at c.in-Ok.ensures.told) c.in-Ok.ensures.within (rw c.bytes.ensures.same at c.read_lint_text.ensures.text)

pub returns-in-Ok-clause-cause : goal.returns-in-Ok-clause-cause
returns-in-Ok-clause-cause g c = quiet_cause (g.I.Inputs.faults c.args.inputs.now) (g.I.Inputs.faults c.fetch.new.self) c.read_lint_text.result c.in-Ok.ensures.cause c.read_lint_text.ensures.read

pub returns-in-Err-clause-told : goal.returns-in-Err-clause-told
returns-in-Err-clause-told g c =
    rw c.fetch_stop.ensures (script_unfetched (List ℕ) (TextGives lint_text) (g.I.Inputs.tells c.args.inputs.now) (g.I.Inputs.tells c.fetch.new.self) c.args.name.now c.in-Err.fault (rw c.as_str.ensures.same at c.in-Err.ensures.told))
