use Rattle.sensor_feed.proofs.LineLemmas.{ends_within, line_taken, no_line}
use Rattle.sensor_feed.proofs.line.take_line.Goals as goal

pub split_at-requires : goal.split_at-requires
split_at-requires c = ends_within c.args.text.now c.line_ends.result c.line_ends.ensures

pub returns-then-is_empty : goal.returns-then-is_empty
returns-then-is_empty c = no_line c.args.text.now c.split_at.result.1.now c.line_ends.result c.line_ends.ensures c.split_at.ensures.back c.if-is_empty.ensures

pub returns : goal.returns
returns c =
    let cut = c.in_ok-cut_line.ensures in (
      line_taken c.args.text.now c.split_at.result.1.now c.line_ends.result _ c.in_ok-cut_line.field-0.now c.line_ends.ensures c.split_at.ensures.back c.if-is_empty.ensures c.requires.plain cut,
      cut.plain,
    )
