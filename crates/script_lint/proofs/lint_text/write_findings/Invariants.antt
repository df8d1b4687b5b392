use Rattle.std.proofs.Common.{◌≡◌, ◌++◌, drop}
use Rattle.std.specs.List.{flat_map}
use Rattle.script_lint.specs.LintText.{finding_line}
use Rattle.script_lint.proofs.lint_text.write_findings.Given as goal

-- what is written, and the lines of the findings that are left
abbrev pub invariant-loop-finding : goal.invariant-loop-finding
invariant-loop-finding l = l.text ++ flat_map (finding_line l.plan) (drop l.finding-index l.found) ≡ l.fn.text ++ flat_map (finding_line l.plan) l.found
