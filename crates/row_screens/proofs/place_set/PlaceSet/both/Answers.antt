use Rattle.row_screens.proofs.PlaceSetLemmas.{bit_both}
use Rattle.row_screens.proofs.place_set.PlaceSet.both.Goals as goal

pub returns : goal.returns
returns c = λ k. bit_both c.args.self.bits c.args.other.bits k
