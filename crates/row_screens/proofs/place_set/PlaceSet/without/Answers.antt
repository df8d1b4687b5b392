use Rattle.std.proofs.Common.{rules}
use Rattle.row_screens.proofs.PlaceSetLemmas.{bit_without}
use Rattle.row_screens.proofs.place_set.PlaceSet.without.Goals as goal

pub returns : goal.returns
returns c = λ k small. bit_without c.args.self.bits c.args.other.bits k (search rules) small
