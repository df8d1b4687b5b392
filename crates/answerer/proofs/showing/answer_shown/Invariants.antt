use Rattle.std.proofs.Common.{◌≡◌, ◌≤◌, length, take}
use Rattle.feed_answers.specs.Answers.{effects_in}
use Rattle.answerer.specs.Answered.{Answered, AreTriedBack}
use Rattle.answerer.proofs.showing.answer_shown.Given as goal

-- the entries so far
abbrev pub invariant-loop-place : goal.invariant-loop-place
invariant-loop-place l = record {
  answered : Answered l.fn.progress.asks (effects_in (take l.place l.state.state.entries)) l.fn.answers l.answers;
  tried : AreTriedBack l.fn.progress.asks (take l.place l.state.state.entries) l.answers;
  done : l.progress.done ≡ l.place;
  within : l.place ≤ length l.state.state.entries;
  asks : l.progress.asks ≡ l.fn.progress.asks;
}
