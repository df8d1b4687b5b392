use Rattle.std.proofs.Common.{◌≡◌, All, map, take}
use Rattle.steal_pool.specs.Moments.{WasEmpty}
use Rattle.steal_pool.specs.Passes.{thief_deque, thief_number, thief_view}
use Rattle.steal_pool.proofs.taking.steal_first.Given as goal

abbrev pub invariant-loop-thief : goal.invariant-loop-thief
invariant-loop-thief g l = record {
  deques : map thief_deque l.thieves ≡ map thief_deque l.initial.thieves;
  numbers : map thief_number l.thieves ≡ map thief_number l.initial.thieves;
  views : map thief_view l.thieves ≡ map thief_view l.initial.thieves;
  empty : All (WasEmpty g.P.Protocol.holds) (take l.thief-index (map thief_view l.initial.thieves));
}
