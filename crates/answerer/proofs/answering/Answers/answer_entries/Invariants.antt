use Rattle.std.proofs.Common.{◌≡◌, ◌≤◌, length, take}
use Rattle.feed_answers.specs.Answers.{effects_in}
use Rattle.answerer.specs.Answered.{Answered, AreTriedBack}
use Rattle.answerer.proofs.answering.Answers.answer_entries.Given as goal

-- the entries so far
abbrev pub invariant-loop-place : goal.invariant-loop-place
invariant-loop-place l = record {
  answered : Answered l.fn.progress.asks (effects_in (take l.place l.entries)) l.fn.self l.self;
  tried : AreTriedBack l.fn.progress.asks (take l.place l.entries) l.self;
  done : l.progress.done ≡ l.place;
  within : l.place ≤ length l.entries;
  asks : l.progress.asks ≡ l.fn.progress.asks;
}
