use Rattle.std.proofs.Common.{◌≡◌, ◌∙◌, ◌++◌, ℕ, List, length, ap}
use Rattle.std.proofs.lemmas.List.{length-map}
use Rattle.live_board.specs.declared.totals.Totals.{Totals}
use Rattle.arrival_log.specs.LogText.{log_text}
use Rattle.watch_run.specs.BoardText.{board_lines, run_totals}
use Rattle.join_command.proofs.watch.watch_output.Goals as goal

pub print_board-requires : goal.print_board-requires
print_board-requires g c =
    let watched = c.in_ok-run.ensures.watched in
    record { rows = ap length watched.board ∙ length-map c.in_ok-run.run'.actors run_totals ∙ watched.linked.fits_plan.actors }

pub returns-clause-log : goal.returns-clause-log
returns-clause-log g c =
    let watched = c.in_ok-run.ensures.watched in
    let run = c.in_ok-run.run' in
    let log = log_text c.args.plan.now run in
    let actors = c.args.plan.now.actors in record {
      run = run;
      version = watched.version;
      linked = watched.linked;
      scheduled = watched.scheduled;
      text = c.in_ok-print_board.ensures.ok
          ∙ ap (λ (bytes : List ℕ). bytes ++ board_lines actors c.in_ok-run.board) (c.in_ok-print_log.ensures.ok ∙ ap (λ (bytes : List ℕ). bytes ++ log) c.new-bytes.ensures.empty)
          ∙ ap (λ (rows : List Totals). log ++ board_lines actors rows) watched.board;
      told = c.run_status-status.ensures.status;
    }
