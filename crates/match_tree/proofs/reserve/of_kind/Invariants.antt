use Rattle.std.proofs.Common.{◌≡◌, ◌≤◌, length, take, slice_index}
use Rattle.std.specs.List.{filter}
use Rattle.guard_eval.specs.Meaning.{recorded_message}
use Rattle.pattern_core.specs.Matches.{is_of_kind}
use Rattle.row_screens.specs.Offers.{places}
use Rattle.match_tree.proofs.reserve.of_kind.Given as goal

abbrev pub invariant-loop-pattern : goal.invariant-loop-pattern
invariant-loop-pattern l = record {
  found : l.found ≡ filter (λ p. is_of_kind (recorded_message l.messages l.number) (slice_index l.definition.patterns p)) (places 0 (take l.pattern l.definition.patterns));
  few : length l.found ≤ l.pattern;
}
