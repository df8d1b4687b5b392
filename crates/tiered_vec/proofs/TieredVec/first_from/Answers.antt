use Rattle.std.proofs.Common.{◌≡◌, ◌∙◌, ◌<◌, ap, sym, length, arith}
use Rattle.std.specs.List.{concat}
use Rattle.tiered_vec.proofs.FoundLemmas.{found_end, found_in}
use Rattle.tiered_vec.proofs.TieredVec.first_from.Goals as goal

pub returns-then-block-len-clause-less : goal.returns-then-block-len-clause-less
returns-then-block-len-clause-less c =
    let bs = c.self.inside.blocks in
    let last : c.block_from-block.result ≡ length bs.items = omega (arith, c.if-block-len.true, c.len.ensures, bs.ok) in
    let size : c.len-len.result ≡ length (concat bs.items) = c.len-len.ensures ∙ ap length (sym c.self.view_is) in
    (found_end _ _ _ _ _ c.self.invariant.1.0 c.self.invariant.1.1 c.self.view_is (record { rise = c.requires.rise }) last size c.block_from-block.ensures.less).less

pub overflow_add-result : goal.overflow_add-result
overflow_add-result c =
    let bs = c.self.inside.blocks in
    let there : c.block_from-block.result < length bs.items = omega (arith, c.if-block-len.false, c.len.ensures, c.block_from-block.ensures.within, bs.ok) in
    let found = found_in _ _ _ _ _ _ _ c.self.invariant.1.0 c.self.invariant.1.1 c.self.view_is (record { rise = c.requires.rise }) there c.block_from-block.ensures.less c.block_from-block.ensures.reached c.numbers_before.ensures c.index.ensures c.first_from.ensures.within c.first_from.ensures.less c.first_from.ensures.reached in
    omega (arith, found.within, c.len-len.ensures, c.len-len.type_inv)

pub returns-clause-within : goal.returns-clause-within
returns-clause-within c =
    let bs = c.self.inside.blocks in
    let there : c.block_from-block.result < length bs.items = omega (arith, c.if-block-len.false, c.len.ensures, c.block_from-block.ensures.within, bs.ok) in
    (found_in _ _ _ _ _ _ _ c.self.invariant.1.0 c.self.invariant.1.1 c.self.view_is (record { rise = c.requires.rise }) there c.block_from-block.ensures.less c.block_from-block.ensures.reached c.numbers_before.ensures c.index.ensures c.first_from.ensures.within c.first_from.ensures.less c.first_from.ensures.reached).within

pub returns-clause-less : goal.returns-clause-less
returns-clause-less c =
    let bs = c.self.inside.blocks in
    let there : c.block_from-block.result < length bs.items = omega (arith, c.if-block-len.false, c.len.ensures, c.block_from-block.ensures.within, bs.ok) in
    (found_in _ _ _ _ _ _ _ c.self.invariant.1.0 c.self.invariant.1.1 c.self.view_is (record { rise = c.requires.rise }) there c.block_from-block.ensures.less c.block_from-block.ensures.reached c.numbers_before.ensures c.index.ensures c.first_from.ensures.within c.first_from.ensures.less c.first_from.ensures.reached).less

pub returns-clause-reached : goal.returns-clause-reached
returns-clause-reached c =
    let bs = c.self.inside.blocks in
    let there : c.block_from-block.result < length bs.items = omega (arith, c.if-block-len.false, c.len.ensures, c.block_from-block.ensures.within, bs.ok) in
    (found_in _ _ _ _ _ _ _ c.self.invariant.1.0 c.self.invariant.1.1 c.self.view_is (record { rise = c.requires.rise }) there c.block_from-block.ensures.less c.block_from-block.ensures.reached c.numbers_before.ensures c.index.ensures c.first_from.ensures.within c.first_from.ensures.less c.first_from.ensures.reached).reached
