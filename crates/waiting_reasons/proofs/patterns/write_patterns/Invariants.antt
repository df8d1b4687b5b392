use Rattle.std.proofs.Common.{◌≡◌, ◌++◌, drop}
use Rattle.waiting_reasons.specs.Text.{pattern_lines}
use Rattle.waiting_reasons.proofs.patterns.write_patterns.Given as goal

-- what is written, and the patterns that are left
abbrev pub invariant-loop-place : goal.invariant-loop-place
invariant-loop-place l =
    l.text ++ pattern_lines l.plan l.rule l.messages l.left l.slots l.place (drop l.place l.rule.definition.patterns) ≡ l.initial.text ++ pattern_lines l.plan l.rule l.messages l.left l.slots 0 l.rule.definition.patterns
