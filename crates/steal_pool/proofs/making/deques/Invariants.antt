use Rattle.std.proofs.Common.{◌≡◌, ◌<◌, ℕ, All, length, map, get_or}
use Rattle.steal_pool.specs.declared.pass.StealPass.{StealPass}
use Rattle.steal_pool.specs.Passes.{own_deque, made_for}
use Rattle.steal_pool.specs.Making.{IsNewPass, SeesAll}
use Rattle.steal_pool.proofs.making.deques.Given as goal

abbrev pub invariant-loop-own : goal.invariant-loop-own
invariant-loop-own g l = record {
  count : length l.passes.items ≡ length l.initial.passes.items;
  same : map own_deque l.passes.items ≡ map own_deque l.initial.passes.items;
  actors : All (λ p. made_for p ≡ l.actors) l.passes.items;
  new : All (IsNewPass g.P.Protocol.first g.P.Protocol.guest) l.passes.items;
  linked :
      (k : ℕ) (d : StealPass g.row.P.Denot) → k < l.own → k < length l.passes.items
      → SeesAll (map own_deque l.initial.passes.items) k (get_or l.passes.items k d);
}
