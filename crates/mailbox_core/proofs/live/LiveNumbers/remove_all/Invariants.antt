use Rattle.std.proofs.Common.{◌≡◌, drop}
use Rattle.join_base.specs.Taken.{without}
use Rattle.mailbox_core.proofs.live.LiveNumbers.remove_all.Given as goal

abbrev pub invariant-loop-number : goal.invariant-loop-number
invariant-loop-number l = record {
  count : l.self.count ≡ l.initial.self.count;
  numbers : without l.self.numbers (drop l.number-index l.numbers) ≡ without l.initial.self.numbers l.numbers;
  room : l.self.room ≡ l.initial.self.room;
}
