use Rattle.std.proofs.Common.{◌∙◌}
use Rattle.uses.proofs.PostedLemmas.{sent_more}
use Rattle.uses.proofs.posted.post_all.Goals as goal

pub loop-actor-preserved : goal.loop-actor-preserved
loop-actor-preserved g c =
    let before = c.loop-actor.invariant in
    let step = c.in_ok-post_one.ensures in
    record {
      poster = step.poster;
      tag = step.tag ∙ before.tag;
      sent = sent_more c.args.posts.now c.loop-actor.actor-index _ _ _ c.loop-actor-item.result c.in_ok-own.own c.loop-actor-test.true c.loop-actor-item.is c.in_ok-own.ensures.equal before.sent step.sent;
      helper = step.helper;
      role = step.role ∙ before.role;
      tags = step.tags ∙ before.tags;
    }
