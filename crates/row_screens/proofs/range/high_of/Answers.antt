use Rattle.std.proofs.Common.{◌≡◌, ℤ, Option, sym, subst}
use Rattle.std.specs.Prelude.{IfSome, IsSomeAnd}
use Rattle.guard_bound.specs.declared.bound.Bound.{Bound}
use Rattle.row_screens.proofs.range.high_of.Goals as goal

pub returns : goal.returns
returns c = subst (λ (b : Option Bound). IfSome c.value_of.result (λ (h : ℤ). IsSomeAnd b (λ (x : Bound). h ≡ x.value))) (sym c.in_ok-bound.was) c.value_of.ensures
