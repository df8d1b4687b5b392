use Rattle.std.proofs.Common.{◌≡◌, rules}
use Rattle.script_lint.specs.LintText.{report_text}
use Rattle.script_lint.specs.Looked.{reported}
use Rattle.script_check.proofs.LintedLemmas.{lints_plan}
use Rattle.script_check.proofs.linted.lint_script.Goals as goal

pub returns : goal.returns
returns c =
    let found : c.in_ok-found.found ≡ reported c.visit_script.new.visitor.linter c.in_ok-heads.heads.kinds = search rules in
    let text : c.write_report.new.text ≡ report_text c.in_ok-heads.heads c.in_ok-found.found = search rules in
    lints_plan c.args.bytes.now c.args.outline.now c.in_ok-heads.heads _ c.visit_script.new.visitor c.in_ok-found.found c.write_report.new.text c.in_ok-heads.ensures.heads (search rules) (search rules) c.in_ok-visit_script.ensures
    found text
