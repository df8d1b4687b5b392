use Rattle.place_law.proofs.LawLemmas.{places_do_not_matter}
use Rattle.place_law.proofs.law.places_law.Goals as goal

pub returns : goal.returns
returns c = places_do_not_matter
