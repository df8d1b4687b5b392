use Rattle.row_screens.proofs.PlaceSetLemmas.{bit_but, bit_fewer}
use Rattle.row_screens.proofs.place_set.PlaceSet.but.Goals as goal

pub returns : goal.returns
returns c = record {
  others = λ k small. bit_but c.args.self.bits c.args.place k c.requires.within small;
  fewer = bit_fewer c.args.self.bits c.args.place c.requires.within c.requires.member;
}
