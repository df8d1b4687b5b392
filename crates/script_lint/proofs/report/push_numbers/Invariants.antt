use Rattle.std.proofs.Common.{◌≡◌, ◌++◌, take}
use Rattle.script_lint.proofs.report.push_numbers.Given as goal

abbrev pub invariant-loop-number : goal.invariant-loop-number
invariant-loop-number l = l.taken ≡ l.fn.taken ++ take l.number-index l.numbers
