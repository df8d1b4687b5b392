use Rattle.std.proofs.Common.{arith}
use Rattle.actor_tests.proofs.FeedLemmas.{feeds_fit}
use Rattle.actor_tests.proofs.one_thread.by_system.Goals as goal

pub new-requires-clause-count : goal.new-requires-clause-count
new-requires-clause-count g c = (omega (arith, c.requires.one), omega (arith, c.requires.one))

pub new-requires-clause-values : goal.new-requires-clause-values
new-requires-clause-values g c = feeds_fit c.args.plan.now c.args.feeds c.requires.fits
