use Rattle.std.proofs.Common.{◌≡◌, true}
use Rattle.std.specs.List.{list_all}
use Rattle.csv.specs.Reading.{default_config, records}
use Rattle.sensor_feed.specs.Feed.{feed_of, posts_from}
use Rattle.sensor_feed.specs.Line.{is_no_quote}
use Rattle.sensor_feed.specs.Reads.{behind}
use Rattle.sensor_feed.proofs.read.posts_of_lines.Given as goal

abbrev pub invariant-loop-row : goal.invariant-loop-row
invariant-loop-row l = record {
  plain : list_all is_no_quote l.rest ≡ true;
  told : behind l.posts (posts_from l.fn.names.plan.now l.row (records default_config l.rest)) ≡ feed_of l.fn.names.plan.now l.fn.bytes;
}
