use Rattle.std.proofs.Common.{◌∙◌}
use Rattle.pool_settling.specs.Rounds.{OutboxIsEmpty}
use Rattle.pool_settling.proofs.BringLemmas.{all_below, brings_more}
use Rattle.pool_settling.proofs.rounds.bring_round.Goals as goal

pub loop-sender-preserved : goal.loop-sender-preserved
loop-sender-preserved g c =
    let before = c.loop-sender.invariant in
    let one = c.in_ok-found.ensures in
    record {
      count = one.brought.posts.on.count ∙ before.count;
      brought = brings_more _ _ _ _ _ before.brought one.brought;
      none = all_below OutboxIsEmpty c.loop-sender.found c.in_ok-found.field-0 c.loop-sender.actors.items c.bring_from.new.actors.items c.loop-sender.sender one.brought.same before.none one.none;
    }
