use Rattle.std.proofs.Common.{◌≡◌, ◌++◌, All, map, take}
use Rattle.steal_pool.specs.Passes.{own_deque, deques_in, thief_view}
use Rattle.steal_pool.proofs.making.add_thieves.Given as goal

abbrev pub invariant-loop-other : goal.invariant-loop-other
invariant-loop-other g l = record {
  deques : deques_in l.thieves.items ≡ deques_in l.initial.thieves.items ++ map own_deque (take l.other-index l.passes);
  new : All (λ t. thief_view t ≡ g.P.Protocol.guest) l.thieves.items;
}
