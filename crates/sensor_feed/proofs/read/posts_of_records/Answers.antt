use Rattle.std.proofs.Common.{◌≡◌, true, rules, subst, Bool}
use Rattle.csv.specs.Records.{fields_of}
use Rattle.sensor_feed.specs.Feed.{feed_of}
use Rattle.sensor_feed.specs.Reader.{TakesFirst, records_left}
use Rattle.sensor_feed.proofs.ReadsLemmas.{feed_goes_on}
use Rattle.sensor_feed.proofs.read.posts_of_records.Goals as goal

pub loop-row-preserved : goal.loop-row-preserved
loop-row-preserved c =
    let plan = c.args.names.now.plan.now in
    let fields = fields_of c.take_record.new.row in
    let found : c.in_ok-found.found ≡ true = search rules in
    let taken = subst (λ (b : Bool). TakesFirst b c.loop-row.reader c.take_record.new.reader fields) found c.in_ok-found.ensures in
    record {
      between = taken.0;
      told = rw c.in_ok-push_post-in-Ok.ensures (
          feed_goes_on plan c.loop-row.posts c.loop-row.row (records_left c.loop-row.reader) fields (records_left c.take_record.new.reader) c.in-Ok.post
          (feed_of plan c.args.bytes.now) taken.1 c.in-Ok.ensures c.loop-row.invariant.told);
    }
