use Rattle.std.proofs.Common.{◌≡◌, get_or, sym, subst, None}
use Rattle.std.specs.Prelude.{MatchOption}
use Rattle.match_tree.specs.Tree.{Tree}
use Rattle.tree_law.proofs.KeepLemmas.{keeping_more, kept_one, may_extend, none_before, reserve_before}
use Rattle.tree_law.proofs.trees.keep_all.Goals as goal

pub expire-requires : goal.expire-requires
expire-requires c =
    let h = reserve_before c.args.number c.args.trees.now c.loop-tree.trees c.loop-tree.tree-index c.tree-item.result c.loop-tree-test.true c.loop-tree.invariant.left c.requires.reserved in
    record { few = c.requires.few; reserved = h.reserved; sees = h.sees }

pub extend-requires : goal.extend-requires
extend-requires c =
    let i = c.loop-tree.tree-index in
    let d = c.tree-item.result in
    let now = c.loop-tree.trees in
    let h = reserve_before c.args.number c.args.trees.now now i d c.loop-tree-test.true c.loop-tree.invariant.left c.requires.reserved in
    let none = none_before c.args.trees.now now i d c.loop-tree-test.true c.loop-tree.invariant.left c.requires.none in
    let may = may_extend c.args.number (get_or now i d).reserve h.reserved none in
    record { reserved = subst (λ (t : Tree). MatchOption t.reserve ⊥ (λ r. (r.number ≡ c.args.number) × (r.best ≡ None))) (sym c.expire.ensures) may }

pub loop-tree-preserved : goal.loop-tree-preserved
loop-tree-preserved c =
    let i = c.loop-tree.tree-index in
    let d = c.tree-item.result in
    let now = c.loop-tree.trees in
    let h = reserve_before c.args.number c.args.trees.now now i d c.loop-tree-test.true c.loop-tree.invariant.left c.requires.reserved in
    let e = c.extend.ensures in
    keeping_more c.args.number c.args.trees.now now i d c.extend.new.self c.loop-tree-test.true c.loop-tree.invariant
    (kept_one c.args.number (get_or now i d) c.expire.new.self c.extend.new.self c.expire.ensures h.reserved e.definition e.rule e.gains) e.settled
