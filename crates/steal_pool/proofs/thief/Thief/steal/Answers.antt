use Rattle.steal_pool.proofs.MomentLemmas.{take_tells, may_steal_again}
use Rattle.steal_pool.proofs.thief.Thief.steal.Goals as goal

pub steal_as-requires-clause-takes : goal.steal_as-requires-clause-takes
steal_as-requires-clause-takes g c =
    let holds = g.P.Protocol.holds in
    let before = c.loop.invariant in
    let may = may_steal_again holds c.args.self.now c.loop.self before.number before.view c.requires.kept in
    take_tells holds _ _ may
