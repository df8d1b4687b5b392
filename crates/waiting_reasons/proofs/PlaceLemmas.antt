-- The places of variables, one list behind the other.
use Rattle.std.proofs.Common.{◌≡◌, List, [], ◌∷◌, ◌++◌, refl, ap}
use Rattle.guard_eval.specs.Meaning.{Need}
use Rattle.guard_eval.specs.declared.term.Place.{Place}
use Rattle.waiting_reasons.specs.Guards.{places_in}

pub places_in-append : (needs more : List Need) → places_in (needs ++ more) ≡ places_in needs ++ places_in more
places_in-append [] more = refl
places_in-append (need ∷ needs) more = ap (λ (ps : List Place). need.0 ∷ ps) (places_in-append needs more)

pub ruleset placed = (places_in-append)
