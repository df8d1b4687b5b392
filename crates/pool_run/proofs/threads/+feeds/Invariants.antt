use Rattle.std.proofs.Common.{◌+◌, ◌*◌, length}
use Rattle.pool_run.proofs.threads.+feeds.Given as goal

abbrev pub decreases-run_feeds : goal.decreases-run_feeds
decreases-run_feeds g l = 2 * length l.parts.items

abbrev pub decreases-others : goal.decreases-others
decreases-others g l = 2 * length l.parts.items + 1
