use Rattle.std.proofs.Common.{◌≡◌, length, arith}
use Rattle.tiered_vec.proofs.PushLemmas.{pushed_behind, pushed_last}
use Rattle.tiered_vec.proofs.tiers.push_in.Goals as goal

pub returns-then-len-lt-BLOCK-clause-ok : goal.returns-then-len-lt-BLOCK-clause-ok
returns-then-len-lt-BLOCK-clause-ok c =
    let size : c.len-count.result ≡ length c.args.blocks.now.items = omega (arith, c.len-count.ensures, c.args.blocks.now.ok) in
    pushed_last _ _ _ _ _ _ _ c.requires.tiered c.requires.begun size c.if-count-eq0.false c.index.ensures c.len.ensures c.if-len-lt-BLOCK.true c.index_mut.ensures.value c.in_ok-push_back.ensures.ok

pub returns-clause-ok : goal.returns-clause-ok
returns-clause-ok c =
    let size : c.len-count.result ≡ length c.args.blocks.now.items = omega (arith, c.len-count.ensures, c.args.blocks.now.ok) in
    pushed_behind _ _ _ _ _ _ c.requires.tiered c.requires.begun size c.if-count-eq0.false c.index.ensures c.len.ensures c.if-len-lt-BLOCK.false c.in_ok-push_block-2.ensures.ok
