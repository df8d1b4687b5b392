use Rattle.pool_settling.proofs.BringLemmas.{posts_trans}
use Rattle.pool_settling.proofs.rounds.bring_posts.Goals as goal

pub loop-preserved : goal.loop-preserved
loop-preserved g c = posts_trans _ _ _ c.loop.invariant c.in_ok-bring_round.ensures.brought.posts
