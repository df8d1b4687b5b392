use Rattle.std.proofs.Common.{◌≡◌}
use Rattle.answerer.specs.Answered.{KnowsTheSame}
use Rattle.ask_run.proofs.telling.put_told.Given as goal

abbrev pub invariant-loop-place : goal.invariant-loop-place
invariant-loop-place l = record {
  told : KnowsTheSame l.fn.answerer.answers l.answerer.answers;
  same : l.queues ≡ l.fn.queues;
}
