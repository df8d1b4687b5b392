use Rattle.std.proofs.Common.{◌≡◌, ◌≤◌, length}
use Rattle.answerer.specs.Asks.{AreNoted}
use Rattle.answerer.proofs.noting.Progress.note.Given as goal

abbrev pub invariant-loop-place : goal.invariant-loop-place
invariant-loop-place l = record {
  noted : AreNoted l.actor l.entries l.self.asks;
  count : length l.self.asks ≡ l.place;
  grew : length l.fn.self.asks ≤ l.place;
  done : l.self.done ≡ l.fn.self.done;
}
