use Rattle.std.proofs.Common.{◌≡◌, take}
use Rattle.log_lines.proofs.list.taken_of.Given as goal

abbrev pub invariant-loop-number : goal.invariant-loop-number
invariant-loop-number l = l.taken ≡ take l.number-index l.numbers
