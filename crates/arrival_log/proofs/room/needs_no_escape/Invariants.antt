use Rattle.std.proofs.Common.{◌≡◌, take}
use Rattle.std.specs.List.{list_all}
use Rattle.arrival_log.specs.Commas.{is_plain_byte}
use Rattle.arrival_log.proofs.room.needs_no_escape.Given as goal

abbrev pub invariant-loop-byte : goal.invariant-loop-byte
invariant-loop-byte l = l.plain ≡ list_all is_plain_byte (take l.byte-index l.text)
