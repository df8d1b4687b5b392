use Rattle.std.proofs.Common.{◌≡◌, ◌∙◌, rules}
use Rattle.sensor_feed.proofs.RecordLemmas.{between_headed, left_headed}
use Rattle.sensor_feed.specs.Reader.{records_left}
use Rattle.sensor_feed.specs.Feed.{records_of}
use Rattle.sensor_feed.proofs.record.reader_of.Goals as goal

pub returns-in-Ok-clause-between : goal.returns-in-Ok-clause-between
returns-in-Ok-clause-between c =
    between_headed c.from_reader-reader.result c.set_byte_headers.new.self c.in-Ok.ensures.same c.in-Ok.ensures.set (search rules) (search rules) (search rules) (search rules) (search rules) (search rules)

pub returns-in-Ok-clause-all : goal.returns-in-Ok-clause-all
returns-in-Ok-clause-all c =
    let before : records_left c.from_reader-reader.result ≡ records_of c.args.bytes.now = search rules in
    left_headed c.from_reader-reader.result c.set_byte_headers.new.self c.in-Ok.ensures.same ∙ before
