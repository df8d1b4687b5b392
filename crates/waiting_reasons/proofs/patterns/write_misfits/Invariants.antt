use Rattle.std.proofs.Common.{◌≡◌, ◌++◌, drop}
use Rattle.waiting_reasons.specs.Text.{misfit_lines}
use Rattle.waiting_reasons.proofs.patterns.write_misfits.Given as goal

-- what is written, and the patterns that are left
abbrev pub invariant-loop-place : goal.invariant-loop-place
invariant-loop-place l =
    l.text ++ misfit_lines l.plan l.rule l.messages l.number l.place (drop l.place l.rule.definition.patterns) ≡ l.initial.text ++ misfit_lines l.plan l.rule l.messages l.number 0 l.rule.definition.patterns
