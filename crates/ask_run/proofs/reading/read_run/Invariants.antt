use Rattle.std.proofs.Common.{◌≡◌}
use Rattle.ask_run.specs.Reading.{FitsEntries, TriesFirst}
use Rattle.ask_run.proofs.reading.read_run.Given as goal

-- the actors so far
abbrev pub invariant-loop-place : goal.invariant-loop-place
invariant-loop-place l = record {
  board : l.answerer.answers.board.now ≡ l.fn.answerer.answers.board.now;
  fits : FitsEntries l.run l.answerer;
  tried : TriesFirst l.place l.run l.answerer;
}
