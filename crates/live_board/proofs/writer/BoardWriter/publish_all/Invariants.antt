use Rattle.std.proofs.Common.{◌≡◌, ◌++◌, length, take}
use mathlib.Core.List.{IsPrefix}
use Rattle.live_board.specs.Folding.{board_of, records_from}
use Rattle.live_board.specs.Writers.{published, row_count, writer_book}
use Rattle.live_board.proofs.writer.BoardWriter.publish_all.Given as goal

abbrev pub invariant-loop-actor : goal.invariant-loop-actor
invariant-loop-actor g l = record {
  book : writer_book l.self ≡ writer_book l.initial.self;
  rows : row_count l.self ≡ row_count l.initial.self;
  kept : IsPrefix (published l.initial.self) (published l.self);
  records : published l.self ≡ published l.initial.self ++ records_from 0 (take l.actor l.totals);
  done : take l.actor (board_of (length l.totals) (published l.self)) ≡ take l.actor l.totals;
}
