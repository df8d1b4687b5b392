use Rattle.std.proofs.Common.{◌≡◌, drop}
use Rattle.log_replay.specs.Apart.{IsWithin, behind}
use Rattle.log_replay.proofs.apart.behind_bytes.Given as goal

abbrev pub invariant-loop-byte : goal.invariant-loop-byte
invariant-loop-byte l = record {
  left : behind l.bytes l.progress (drop l.byte-index l.piece) ≡ behind l.bytes l.fn.start l.piece;
  within : IsWithin l.bytes l.progress;
}
