use Rattle.std.proofs.Common.{◌++◌, get_or}
use Rattle.live_board.specs.Folding.{no_totals}
use Rattle.watch_run.specs.BoardText.{board_lines}
use Rattle.watch_run.proofs.LineLemmas.{line_written, same_row}
use Rattle.watch_run.proofs.board_text.write_rows.Goals as goal

pub loop-place-preserved : goal.loop-place-preserved
loop-place-preserved c =
    let actors = c.args.plan.now.actors in
    let rows = c.args.rows.now in
    let place = c.loop-place.place in
    let row = get_or rows place no_totals in
    line_written actors rows place c.at.result.now row (c.args.text.now ++ board_lines actors rows) c.loop-place.text c.write_row.new.text
    c.requires c.loop-place-test.true c.at.ensures.item (same_row rows place no_totals row c.loop-place-test.true) c.loop-place.invariant c.in_ok-write_row.ensures
