use Rattle.std.proofs.Common.{◌≡◌, length}
use Rattle.log_lines.specs.Messages.{all_numbers}
use Rattle.log_lines.proofs.ListLemmas.{behind, comma_parts}
use Rattle.log_lines.proofs.list.numbers_of.Given as goal

abbrev pub invariant-parts : goal.invariant-parts
invariant-parts l = behind l.numbers (all_numbers (comma_parts l.rest)) ≡ all_numbers (comma_parts l.text)

abbrev pub decreases-parts : goal.decreases-parts
decreases-parts l = length l.rest
