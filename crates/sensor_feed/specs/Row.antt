-- The fields of a record in either form.
use Rattle.std.specs.Prelude.{ℕ, List, map}
use Rattle.std.proofs.Common.{Bor}
use Rattle.csv.specs.Records.{fields_of}
use Rattle.sensor_feed.specs.Feed.{Record}
use Rattle.sensor_feed.specs.declared.row.Row.{Row}
use Rattle.sensor_feed.specs.declared.row.Row.TheVariants as row

abbrev pub fields_in : Row → Record
fields_in (row.Line fields) = map (λ (field : Bor (List ℕ)). field.now) fields.now
fields_in (row.Read read) = fields_of read.now
