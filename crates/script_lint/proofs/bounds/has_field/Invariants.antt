use Rattle.std.proofs.Common.{◌≡◌, drop}
use Rattle.guard_eval.specs.Meaning.{has_some, term_needs}
use Rattle.script_lint.proofs.bounds.has_field.Given as goal

-- the leaves that are left decide
abbrev pub invariant-loop-signed : goal.invariant-loop-signed
invariant-loop-signed l = has_some (term_needs (drop l.signed-index l.leaves)) ≡ has_some (term_needs l.leaves)
