use Rattle.std.proofs.Common.{◌≡◌, ◌≤◌, length}
use Rattle.answerer.specs.Asks.{AreNoted}
use Rattle.answerer.proofs.showing.note_shown.Given as goal

abbrev pub invariant-loop-place : goal.invariant-loop-place
invariant-loop-place l = record {
  noted : AreNoted l.actor l.state.state.entries l.progress.asks;
  count : length l.progress.asks ≡ l.place;
  grew : length l.fn.progress.asks ≤ l.place;
  done : l.progress.done ≡ l.fn.progress.done;
}
