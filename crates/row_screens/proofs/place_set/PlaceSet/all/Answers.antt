use Rattle.row_screens.proofs.PlaceSetLemmas.{all_has}
use Rattle.row_screens.proofs.place_set.PlaceSet.all.Goals as goal

pub returns : goal.returns
returns c = record { full = λ k small. all_has k small }
