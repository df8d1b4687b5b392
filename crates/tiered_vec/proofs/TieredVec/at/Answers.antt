use Rattle.tiered_vec.proofs.FoundLemmas.{read_at}
use Rattle.tiered_vec.proofs.TieredVec.at.Goals as goal

pub returns : goal.returns
returns c = read_at _ _ _ _ _ _ _ c.self.view_is c.place_in-at.ensures.block c.place_in-at.ensures.within c.place_in-at.ensures.same c.index.ensures c.at.ensures
