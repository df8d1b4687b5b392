use Rattle.std.proofs.Common.{◌≡◌, drop}
use Rattle.waiting_reasons.specs.Guards.{has_place}
use Rattle.waiting_reasons.proofs.places.has_place.Given as goal

-- the places that are left decide
abbrev pub invariant-loop-other : goal.invariant-loop-other
invariant-loop-other l = has_place (drop l.other-index l.places) l.place ≡ has_place l.places l.place
