use Rattle.tiered_vec.proofs.FullLemmas.{placed_behind}
use Rattle.tiered_vec.proofs.tiers.place_in.Goals as goal

pub returns-clause-block : goal.returns-clause-block
returns-clause-block c = (placed_behind _ _ _ _ c.requires.tiered c.requires.within c.index.ensures c.len-first.ensures c.if-place-first.false).there

pub returns-clause-within : goal.returns-clause-within
returns-clause-within c = (placed_behind _ _ _ _ c.requires.tiered c.requires.within c.index.ensures c.len-first.ensures c.if-place-first.false).inside

pub returns-clause-same : goal.returns-clause-same
returns-clause-same c = (placed_behind _ _ _ _ c.requires.tiered c.requires.within c.index.ensures c.len-first.ensures c.if-place-first.false).same
