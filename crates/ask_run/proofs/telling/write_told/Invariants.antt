use Rattle.std.proofs.Common.{◌≡◌, ◌+◌, ◌++◌, drop}
use Rattle.feed_answers.specs.AnswersText.{lines_from}
use Rattle.answerer.specs.Answered.{KnowsTheSame}
use Rattle.ask_run.proofs.telling.write_told.Given as goal

-- what is written, and the lines of the feeds that are left
abbrev pub invariant-loop-place : goal.invariant-loop-place
invariant-loop-place l = record {
  told : KnowsTheSame l.fn.answerer.answers l.answerer.answers;
  written : l.text ++ lines_from l.run.actors (l.place + 1) (drop l.place l.feeds) ≡ l.fn.text ++ lines_from l.fn.run.actors 1 l.feeds;
}
