use Rattle.std.proofs.Common.{◌<◌, deque_len, subst, arith}
use Rattle.std.specs.Prelude.{◌≡◌, OnSome}
use Rattle.std.specs.List.{remove}
use Rattle.tree_rows.proofs.LeafLemmas.{last_removed}
use Rattle.tree_rows.proofs.prune.remove_leaf.Goals as goal

pub returns-then-place-len : goal.returns-then-place-len
returns-then-place-len c =
    let leaves = c.args.leaves.now in
    last_removed leaves.items c.pop_back.new.self.items c.pop_back.result c.args.place (deque_len leaves) (deque_len c.pop_back.new.self) c.pop_back.ensures.items c.pop_back.ensures.cases leaves.ok.0 (omega (arith, c.if-place-len.true, c.len.ensures, leaves.ok.0))

pub returns : goal.returns
returns c =
    let leaves = c.args.leaves.now in
    let within : c.args.place < deque_len leaves = omega (arith, c.requires.within, leaves.ok.0) in
    subst (λ r. OnSome r (c.remove.new.self.items ≡ remove leaves.items c.args.place)) (c.remove.ensures.succeeds 0 within) c.remove.ensures.items
