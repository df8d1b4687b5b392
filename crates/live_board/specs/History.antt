-- What contracts read of a beginning of a history.
use Rattle.std.specs.Prelude.{true, List}
use Rattle.logbook.specs.Pages.{Book, Named}
use Rattle.live_board.specs.declared.record.Record.{Record}
use Rattle.live_board.specs.declared.front.Front.{Front}

abbrev pub front_records : Front → List Record
front_records f = f.seen.log

-- which history it is of
abbrev pub front_book : Front → Book
front_book f = f.seen.book

-- the word of a history
abbrev pub head_of : Book → Named
head_of b = record { tracked = true; key = 0; book = b }
