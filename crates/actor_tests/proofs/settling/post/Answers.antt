use Rattle.std.proofs.Common.{◌∙◌}
use Rattle.actor_tests.proofs.CellLemmas.{count-kept}
use Rattle.actor_tests.proofs.settling.post.Goals as goal

pub loop-preserved : goal.loop-preserved
loop-preserved c = record {
  tag = c.push.ensures.tag ∙ c.loop.invariant.tag;
  count = count-kept c.push.new.self c.loop.poster c.push.ensures.tag ∙ c.loop.invariant.count;
}
