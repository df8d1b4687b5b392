use Rattle.std.proofs.Common.{◌≡◌, ◌≤◌, count_by, take}
use Rattle.log_replay.specs.Apart.{ends_line}
use Rattle.log_replay.proofs.apart.line_count.Given as goal

abbrev pub invariant-loop-byte : goal.invariant-loop-byte
invariant-loop-byte l = record {
  counted : l.count ≡ count_by ends_line (take l.byte-index l.bytes);
  within : l.count ≤ l.byte-index;
}
