use Rattle.row_screens.proofs.PlaceSetLemmas.{bit_more}
use Rattle.row_screens.proofs.place_set.PlaceSet.with.Goals as goal

pub returns : goal.returns
returns c = λ k. bit_more c.args.self.bits c.args.place k c.requires.within
