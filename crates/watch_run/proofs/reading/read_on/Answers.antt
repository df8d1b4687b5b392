use Rattle.std.proofs.Common.{◌≡◌, length, sym, ap, ◌∙◌}
use Rattle.live_board.specs.Glasses.{left_records, left_rows}
use Rattle.live_board.specs.Monitors.{glass_of}
use Rattle.live_board.proofs.FoldLemmas.{board-length}
use Rattle.watch_run.proofs.reading.read_on.Goals as goal

pub loop-preserved : goal.loop-preserved
loop-preserved g c =
    let rows = left_rows (glass_of c.loop.monitor) in
    ap length c.in-Ok-read.ensures.shown.folded ∙ board-length rows (left_records (glass_of c.read.new.self)) ∙ sym c.read.ensures.rows
