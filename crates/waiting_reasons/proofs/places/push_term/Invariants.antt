use Rattle.std.proofs.Common.{◌≡◌, ◌++◌, drop}
use Rattle.guard_eval.specs.Meaning.{term_needs}
use Rattle.waiting_reasons.specs.Guards.{places_in}
use Rattle.waiting_reasons.proofs.places.push_term.Given as goal

-- what is listed, and the leaves that are left
abbrev pub invariant-loop-signed : goal.invariant-loop-signed
invariant-loop-signed l = l.places ++ places_in (term_needs (drop l.signed-index l.signed-items)) ≡ l.initial.places ++ places_in (term_needs l.signed-items)
