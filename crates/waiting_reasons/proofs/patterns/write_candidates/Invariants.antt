use Rattle.std.proofs.Common.{◌≡◌, ◌++◌, drop, take}
use Rattle.std.specs.List.{AllByRecursion, flat_map}
use Rattle.waiting_reasons.specs.Inside.{SuitsWith}
use Rattle.waiting_reasons.specs.Text.{candidate_line}
use Rattle.waiting_reasons.proofs.patterns.write_candidates.Given as goal

abbrev pub invariant-loop-number : goal.invariant-loop-number
invariant-loop-number l = record {
  told : l.text ≡ l.initial.text ++ flat_map (candidate_line l.plan l.rule l.messages l.slots l.place) (take l.number-index l.numbers);
  all : AllByRecursion (SuitsWith l.messages l.rule.definition.patterns l.slots l.place) (drop l.number-index l.numbers);
}
