use Rattle.std.proofs.Common.{◌≡◌, ◌+◌, drop}
use Rattle.script_lint.specs.Findings.{first_shadow}
use Rattle.script_lint.proofs.shadow.first_shadow.Given as goal

-- the rules that are left decide
abbrev pub invariant-loop-place : goal.invariant-loop-place
invariant-loop-place l = first_shadow (l.place + 1) (drop l.place l.earlier) l.definition ≡ first_shadow 1 l.earlier l.definition
