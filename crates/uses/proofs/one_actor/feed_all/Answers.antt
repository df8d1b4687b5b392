use Rattle.std.proofs.Common.{◌∙◌}
use Rattle.join_base.specs.declared.message.Source.TheVariants as source
use Rattle.uses.proofs.OneActorLemmas.{fed_more}
use Rattle.uses.proofs.one_actor.feed_all.Goals as goal

pub loop-message-preserved : goal.loop-message-preserved
loop-message-preserved g c =
    let before = c.loop-message.invariant in
    let step = c.in_ok-arrive.ensures in
    record {
      source = step.sources (source.Feed 1) before.source;
      setting = step.setting ∙ before.setting;
      fair = fed_more c.args.actor.now.setting c.loop-message.actor.setting c.args.actor.now.state c.loop-message.actor.state c.arrive.new.self.state c.args.messages.now c.loop-message.message-index c.message-item.result c.in_ok-arrive.field-0
          c.loop-message-test.true c.message-item.is before.setting step.step before.fair;
    }
