use Rattle.std.proofs.Common.{◌≡◌, drop}
use Rattle.std.specs.List.{list_any}
use Rattle.guard_eval.specs.Meaning.{recorded_message}
use Rattle.pattern_core.specs.Matches.{is_of_kind}
use Rattle.waiting_reasons.proofs.messages.takes_kind.Given as goal

-- the patterns that are left decide
abbrev pub invariant-loop-kind : goal.invariant-loop-kind
invariant-loop-kind l = list_any (is_of_kind (recorded_message l.messages l.number)) (drop l.kind-index l.kind-items) ≡ list_any (is_of_kind (recorded_message l.messages l.number)) l.kind-items
