use Rattle.std.proofs.Common.{◌≡◌, map, take}
use Rattle.join_base.specs.declared.message.Value.TheVariants.{Int}
use Rattle.join_base.proofs.fields.int_values.Given as goal

abbrev pub invariant-loop-n : goal.invariant-loop-n
invariant-loop-n l = l.values.items ≡ map (λ n. Int n) (take l.n-index l.ints)
