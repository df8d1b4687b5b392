use Rattle.std.proofs.Common.{◌≡◌, length}
use Rattle.live_board.specs.Glasses.{left_rows}
use Rattle.live_board.specs.Monitors.{glass_of}
use Rattle.watch_run.proofs.reading.read_on.Given as goal

abbrev pub invariant-loop : goal.invariant-loop
invariant-loop g l = length l.board ≡ left_rows (glass_of l.monitor)
