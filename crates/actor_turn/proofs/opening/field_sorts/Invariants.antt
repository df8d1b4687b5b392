use Rattle.std.proofs.Common.{◌≡◌, take, map, ℕ, List}
use Rattle.join_base.specs.declared.message.Sort.{Sort}
use Rattle.actor_turn.proofs.opening.field_sorts.Given as goal

abbrev pub invariant-loop-field : goal.invariant-loop-field
invariant-loop-field l = l.sorts ≡ map (λ (field : List ℕ × Sort). field.1) (take l.field-index l.field-items)
