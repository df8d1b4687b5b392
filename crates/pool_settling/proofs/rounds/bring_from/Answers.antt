use Rattle.std.proofs.Common.{◌∙◌}
use Rattle.pool_settling.specs.Rounds.{OutboxHasNone}
use Rattle.pool_settling.proofs.BringLemmas.{all_below, brings_more}
use Rattle.pool_settling.proofs.rounds.bring_from.Goals as goal

pub loop-target-preserved : goal.loop-target-preserved
loop-target-preserved g c =
    let before = c.loop-target.invariant in
    let one = c.in_ok-found.ensures in
    record {
      count = one.brought.posts.on.count ∙ before.count;
      brought = brings_more _ _ _ _ _ before.brought one.brought;
      none = all_below (λ hs target. OutboxHasNone hs c.args.sender target) c.loop-target.found c.in_ok-found.field-0 c.loop-target.actors.items c.bring_post.new.actors.items c.loop-target.target one.brought.same before.none one.none;
    }
