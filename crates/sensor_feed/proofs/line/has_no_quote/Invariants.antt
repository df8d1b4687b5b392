use Rattle.std.proofs.Common.{◌≡◌, take}
use Rattle.std.specs.List.{list_all}
use Rattle.sensor_feed.specs.Line.{is_no_quote}
use Rattle.sensor_feed.proofs.line.has_no_quote.Given as goal

abbrev pub invariant-loop-byte : goal.invariant-loop-byte
invariant-loop-byte l = l.plain ≡ list_all is_no_quote (take l.byte-index l.bytes)
