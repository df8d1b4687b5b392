use Rattle.std.proofs.Common.{◌≡◌, drop}
use Rattle.std.specs.List.{list_any}
use Rattle.waiting_reasons.specs.Text.{takes_kind}
use Rattle.waiting_reasons.proofs.messages.is_taken.Given as goal

-- the definitions that are left decide
abbrev pub invariant-loop-rule : goal.invariant-loop-rule
invariant-loop-rule l = list_any (takes_kind l.messages l.number) (drop l.rule-index l.rules) ≡ list_any (takes_kind l.messages l.number) l.rules
