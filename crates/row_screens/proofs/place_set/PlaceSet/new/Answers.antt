use Rattle.row_screens.proofs.PlaceSetLemmas.{none_has}
use Rattle.row_screens.proofs.place_set.PlaceSet.new.Goals as goal

pub returns : goal.returns
returns c = record { empty = λ k. none_has k }
