use Rattle.std.proofs.Common.{◌≡◌, drop}
use Rattle.guard_eval.specs.Meaning.{term_needs}
use Rattle.row_screens.specs.Ties.{names}
use Rattle.row_screens.proofs.ties.has_leaf.Given as goal

-- what is left of the sum decides
abbrev pub invariant-loop-signed : goal.invariant-loop-signed
invariant-loop-signed l = names l.pattern (term_needs (drop l.signed-index l.leaves)) ≡ names l.pattern (term_needs l.leaves)
