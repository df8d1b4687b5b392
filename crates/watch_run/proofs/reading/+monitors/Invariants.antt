use Rattle.std.proofs.Common.{◌+◌, ◌*◌, length}
use Rattle.watch_run.proofs.reading.+monitors.Given as goal

abbrev pub decreases-read_all : goal.decreases-read_all
decreases-read_all g l = 2 * length l.monitors.items

abbrev pub decreases-others : goal.decreases-others
decreases-others g l = 2 * length l.monitors.items + 1
