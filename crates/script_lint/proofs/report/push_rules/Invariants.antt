use Rattle.std.proofs.Common.{◌≡◌, ◌++◌, [], drop, take}
use Rattle.script_lint.specs.Findings.{findings_behind, kinds_behind}
use Rattle.script_lint.proofs.report.push_rules.Given as goal

-- what is listed, and what the rules that are left give behind the others
abbrev pub invariant-loop-place : goal.invariant-loop-place
invariant-loop-place l = record {
  found : l.found ++ findings_behind l.actor (take l.place l.rules) (drop l.place l.rules) ≡ l.fn.found ++ findings_behind l.actor [] l.rules;
  taken : l.taken ++ kinds_behind l.actor (take l.place l.rules) (drop l.place l.rules) ≡ l.fn.taken ++ kinds_behind l.actor [] l.rules;
}
