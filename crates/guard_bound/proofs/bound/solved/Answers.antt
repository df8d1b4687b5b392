use Rattle.std.proofs.Common.{subst}
use Rattle.std.proofs.lemmas.Option.{IfSome_then}
use Rattle.join_base.specs.declared.message.Relation.{Relation}
use Rattle.guard_bound.specs.Bound.{BoundsSplits}
use Rattle.guard_bound.specs.declared.bound.Bound.{Bound}
use Rattle.guard_bound.proofs.BoundLemmas.{other_side}
use Rattle.guard_bound.proofs.bound.solved.Goals as goal

pub returns-in-None-Some : goal.returns-in-None-Some
returns-in-None-Some c =
    let a = c.args in
    IfSome_then c.bound_beside-in-None-Some.result c.bound_beside-in-None-Some.ensures
    (λ (b : Bound) h. other_side a.left a.right a.relation b (subst (λ (r : Relation). BoundsSplits a.right r a.left b) c.turned.ensures h))
