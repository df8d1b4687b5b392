use Rattle.std.proofs.Common.{◌≡◌, ◌<◌, drop}
use Rattle.value_index.specs.Values.{text_from, text_value}
use Rattle.value_index.proofs.field.text_value.Given as goal

abbrev pub invariant-loop-byte : goal.invariant-loop-byte
invariant-loop-byte l = record {
  small : l.value < 4294967291;
  left : text_from l.value (drop l.byte-index l.bytes) ≡ text_value l.bytes;
}
