use Rattle.std.proofs.Common.{slice_get, arith}
use Rattle.log_reader.specs.Places.{whole_lines}
use Rattle.log_reader.proofs.WalkLemmas.{line_behind, line_here}
use Rattle.log_reader.proofs.line.line_at.Goals as goal

pub lines-preserved : goal.lines-preserved
lines-preserved c =
    let test = c.lines-test.true in
    line_behind c.lines.rest.now c.in-Some.field-0-0.now c.in-Some.more.now c.lines.left (slice_get (whole_lines c.args.text.now) c.args.place) c.in-Some.ensures.parts (omega (arith, test)) c.lines.invariant

pub returns-in-Some-cut_line : goal.returns-in-Some-cut_line
returns-in-Some-cut_line c =
    let test = c.lines-test.false in
    line_here c.lines.rest.now c.in-Some-cut_line.line.now c.in-Some-cut_line.field-0-1.now c.lines.left (slice_get (whole_lines c.args.text.now) c.args.place) c.in-Some-cut_line.ensures.parts (omega (arith, test)) c.lines.invariant
