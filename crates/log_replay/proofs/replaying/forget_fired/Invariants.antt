use Rattle.std.proofs.Common.{◌≡◌, length}
use Rattle.log_replay.proofs.replaying.forget_fired.Given as goal

abbrev pub invariant-loop-place : goal.invariant-loop-place
invariant-loop-place l = record {
  state : l.actor.state ≡ l.initial.actor.state;
  setting : l.actor.setting ≡ l.initial.actor.setting;
  many : length l.actor.outbox ≡ l.fn.count;
}
