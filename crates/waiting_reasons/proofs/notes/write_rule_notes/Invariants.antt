use Rattle.std.proofs.Common.{◌≡◌, ◌++◌, ◌+◌, drop}
use Rattle.std.specs.List.{AllByRecursion}
use Rattle.waiting_reasons.specs.Inside.{RuleSuits}
use Rattle.waiting_reasons.specs.Text.{rule_notes}
use Rattle.waiting_reasons.proofs.notes.write_rule_notes.Given as goal

-- what is written, and the definitions that are left
abbrev pub invariant-loop-place : goal.invariant-loop-place
invariant-loop-place l = record {
  told : l.text ++ rule_notes l.messages l.left l.number (l.place + 1) (drop l.place l.rules) ≡ l.initial.text ++ rule_notes l.messages l.left l.number 1 l.rules;
  all : AllByRecursion (RuleSuits l.messages) (drop l.place l.rules);
}
