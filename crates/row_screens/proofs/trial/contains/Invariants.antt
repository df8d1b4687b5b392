use Rattle.std.proofs.Common.{◌≡◌, drop}
use Rattle.join_base.specs.Taken.{contains_number}
use Rattle.row_screens.proofs.trial.contains.Given as goal

abbrev pub invariant-loop-pattern : goal.invariant-loop-pattern
invariant-loop-pattern l = contains_number (drop l.pattern-index l.pattern-items) l.wanted ≡ contains_number l.patterns l.wanted
