use Rattle.std.proofs.Common.{◌≡◌, ◌++◌, drop}
use Rattle.script_lint.specs.Findings.{idle_from}
use Rattle.script_lint.proofs.report.push_idle.Given as goal

-- what is listed, and what the kinds that are left give
abbrev pub invariant-loop-place : goal.invariant-loop-place
invariant-loop-place l = l.found ++ idle_from l.taken l.place (drop l.place l.kinds) ≡ l.fn.found ++ idle_from l.taken 0 l.kinds
