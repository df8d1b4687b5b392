use Rattle.std.proofs.Common.{◌+◌, ℕ, List, false, pos, arith, drop, get_or}
use Rattle.std.proofs.lemmas.List.{drop_more, drop_all}
use Rattle.guard_eval.specs.declared.term.Signed.{Signed}
use Rattle.guard_eval.specs.declared.term.Leaf.TheVariants.{Number}
use Rattle.guard_bound.proofs.BoundLemmas.{leaves_less, leaves_none}
use Rattle.guard_bound.proofs.bound.split_of.Goals as goal

pub loop-signed-preserved : goal.loop-signed-preserved
loop-signed-preserved c =
    let a = c.args in
    let xs : List Signed = c.leaves-signed-items.result.now in
    let i : ℕ = c.loop-signed.signed-index in
    let d : Signed = record { minus = false; leaf = Number (pos 0) } in
    let split = drop_more xs i d c.loop-signed-test.true in
    leaves_less a.messages.now a.known a.pattern a.wanted a.term.now (drop i xs) (drop (i + 1) xs) (get_or xs i d) c.loop-signed.split c.in_ok-split.split split c.in_ok-split.ensures c.loop-signed.invariant

pub returns : goal.returns
returns c =
    let a = c.args in
    let xs : List Signed = c.leaves-signed-items.result.now in
    let i : ℕ = c.loop-signed.signed-index in
    leaves_none a.messages.now a.known a.pattern a.wanted a.term.now (drop i xs) c.loop-signed.split (drop_all i xs (omega (arith, c.loop-signed-test.false))) c.loop-signed.invariant
