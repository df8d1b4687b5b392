use Rattle.std.proofs.Common.{◌+◌, ◌*◌, length}
use Rattle.pool_run.proofs.threads.+workers.Given as goal

abbrev pub decreases-run_workers : goal.decreases-run_workers
decreases-run_workers g l = 2 * length l.parts.items

abbrev pub decreases-others : goal.decreases-others
decreases-others g l = 2 * length l.parts.items + 1
