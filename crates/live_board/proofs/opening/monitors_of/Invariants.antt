use Rattle.std.proofs.Common.{◌≡◌, All, length}
use Rattle.live_board.specs.Monitors.{glass_of}
use Rattle.live_board.specs.Glasses.{IsNewGlass}
use Rattle.live_board.specs.Writers.{published, writer_book, row_count}
use Rattle.live_board.proofs.opening.monitors_of.Given as goal

abbrev pub invariant-loop : goal.invariant-loop
invariant-loop l = record {
  published : published l.writer ≡ published l.initial.writer;
  book : writer_book l.writer ≡ writer_book l.initial.writer;
  rows : row_count l.writer ≡ row_count l.initial.writer;
  count : length l.monitors ≡ l.counter;
  each : All (λ m. IsNewGlass (writer_book l.initial.writer) (row_count l.initial.writer) (glass_of m)) l.monitors;
}
