use Rattle.std.proofs.Common.{◌≡◌, sym, subst, arith, ◌+ℤ◌, to_z, of_z}
use Rattle.std.specs.Int.{w128}
use Rattle.std.proofs.lemmas.Int.{ints}
use Rattle.std.specs.Prelude.{ℤ}
use Rattle.join_base.specs.declared.message.Relation.{Relation}
use Rattle.guard_bound.specs.Bound.{BoundsSplits}
use Rattle.guard_bound.specs.declared.bound.Bound.{Bound}
use Rattle.guard_bound.proofs.BoundLemmas.{plus_leaf, minus_leaf}
use Rattle.guard_bound.proofs.bound.bound_beside.Goals as goal

pub returns-then-own : goal.returns-then-own
returns-then-own c =
    let a = c.args in
    let v : ℤ = to_z w128 (of_z w128 c.in_ok-value.value) in
    let apart : a.right.known +ℤ v ≡ a.left.known = omega (arith, ints, c.in_ok-value.ensures) in
    let bound : Relation → Bound = λ r. record { field = a.own.field; relation = r; value = v } in
    subst (λ (r : Relation). BoundsSplits a.left a.relation a.right (bound r)) (sym c.turned.ensures) (minus_leaf a.left a.right a.own a.relation v c.requires.has c.requires.lacks c.if-own.true apart)

pub returns : goal.returns
returns c =
    let a = c.args in
    let v : ℤ = to_z w128 (of_z w128 c.in_ok-value-2.value) in
    let apart : a.left.known +ℤ v ≡ a.right.known = omega (arith, ints, c.in_ok-value-2.ensures) in
    plus_leaf a.left a.right a.own a.relation v c.requires.has c.requires.lacks c.if-own.false apart
