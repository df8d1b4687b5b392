use Rattle.std.proofs.Common.{◌≡◌, ◌+◌, ◌-◌, ◌≤◌, length}
use Rattle.system_files.proofs.files.read_up_to.Given as goal

abbrev pub invariant-pieces : goal.invariant-pieces
invariant-pieces g l = record {
  room : length l.buffer.items ≡ l.size;
  some : 1 ≤ l.size;
}

abbrev pub decreases-pieces : goal.decreases-pieces
decreases-pieces g l = l.max + 1 - length l.bytes.items
