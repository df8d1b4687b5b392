use Rattle.std.proofs.Common.{◌≡◌, drop}
use Rattle.std.specs.List.{list_all}
use Rattle.guard_bound.specs.Bound.{meets}
use Rattle.guard_bound.proofs.bound.meets_all.Given as goal

abbrev pub invariant-loop-bound : goal.invariant-loop-bound
invariant-loop-bound l = list_all (λ bound. meets l.messages bound l.number) (drop l.bound-index l.bound-items) ≡ list_all (λ bound. meets l.messages bound l.number) l.bounds
