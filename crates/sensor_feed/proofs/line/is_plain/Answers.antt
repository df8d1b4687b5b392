use Rattle.std.proofs.Common.{◌∙◌, sym}
use Rattle.sensor_feed.proofs.LineLemmas.{plain_told}
use Rattle.sensor_feed.proofs.line.is_plain.Goals as goal

pub returns : goal.returns
returns c is = plain_told c.args.bytes.now c.byte_at.result c.byte_at.ensures c.if-byte_at-eq239.false (sym c.has_no_quote.ensures ∙ is)
