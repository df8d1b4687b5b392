use Rattle.std.proofs.Common.{◌≡◌, ◌++◌, drop}
use Rattle.watch_run.specs.BoardText.{board_lines}
use Rattle.watch_run.proofs.board_text.write_rows.Given as goal

abbrev pub invariant-loop-place : goal.invariant-loop-place
invariant-loop-place l = l.text ++ board_lines (drop l.place l.plan.actors) (drop l.place l.rows) ≡ l.initial.text ++ board_lines l.plan.actors l.rows
