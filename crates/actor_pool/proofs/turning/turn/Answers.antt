use Rattle.std.proofs.lemmas.Result.{IfErr-weaker}
use Rattle.actor_pool.specs.declared.turning.TurnFault.{TurnFault}
use Rattle.actor_pool.specs.Helpers.{seat_of}
use Rattle.actor_pool.proofs.BesideLemmas.{nobody-faulted}
use Rattle.actor_pool.proofs.turning.turn.Goals as goal

pub returns-clause-fault : goal.returns-clause-fault
returns-clause-fault g c =
    IfErr-weaker c.turn_beside.result _ _ (λ (fault : TurnFault) h. nobody-faulted c.args.actor fault (seat_of c.args.helper.now) (seat_of c.turn_beside.new.helper) h) c.turn_beside.ensures.fault
