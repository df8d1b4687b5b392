use Rattle.std.proofs.Common.{◌≡◌, All, length}
use Rattle.steal_pool.specs.Passes.{made_for}
use Rattle.steal_pool.specs.Making.{IsNewPass}
use Rattle.steal_pool.proofs.making.lone_passes.Given as goal

abbrev pub invariant-loop : goal.invariant-loop
invariant-loop g l = record {
  count : length l.passes.items ≡ l.counter;
  actors : All (λ p. made_for p ≡ l.actors) l.passes.items;
  new : All (IsNewPass g.P.Protocol.first g.P.Protocol.guest) l.passes.items;
}
