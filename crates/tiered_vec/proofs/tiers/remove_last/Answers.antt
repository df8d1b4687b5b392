use Rattle.std.proofs.Common.{◌≡◌, ◌∙◌, ◌-◌, ap, take, vec_len, arith}
use Rattle.tiered_vec.proofs.LastLemmas.{taken_block, taken_one}
use Rattle.tiered_vec.proofs.tiers.remove_last.Goals as goal

pub returns-then-len-eq1 : goal.returns-then-len-eq1
returns-then-len-eq1 c =
    let last : vec_len c.args.blocks.now - 1 ≡ c.args.at.block = omega (arith, c.requires.block, c.args.blocks.now.ok) in
    taken_block _ _ _ _ _ _ c.requires.tiered c.requires.begun c.requires.block c.requires.within c.index.ensures c.len.ensures c.if-len-eq1.true (c.pop.ensures.rest ∙ ap (λ k. take k c.args.blocks.now.items) last)

pub returns : goal.returns
returns c = taken_one _ _ _ _ _ _ _ c.requires.tiered c.requires.begun c.requires.block c.requires.within c.index.ensures c.len.ensures c.if-len-eq1.false c.index_mut.ensures.value c.remove.ensures
