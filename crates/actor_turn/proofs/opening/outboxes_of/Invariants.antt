use Rattle.std.proofs.Common.{◌≡◌, map, replicate, false, []}
use Rattle.actor_turn.proofs.opening.outboxes_of.Given as goal

abbrev pub invariant-loop : goal.invariant-loop
invariant-loop l = record {
  posts : map (λ o. o.posts) l.outboxes.items ≡ replicate l.counter [];
  lent : map (λ o. o.lent) l.outboxes.items ≡ replicate l.counter false;
}
