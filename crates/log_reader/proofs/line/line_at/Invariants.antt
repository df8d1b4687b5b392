use Rattle.std.proofs.Common.{◌≡◌, slice_get}
use Rattle.log_reader.specs.Places.{whole_lines}
use Rattle.log_reader.proofs.line.line_at.Given as goal

abbrev pub invariant-lines : goal.invariant-lines
invariant-lines l = slice_get (whole_lines l.rest) l.left ≡ slice_get (whole_lines l.text) l.place

abbrev pub decreases-lines : goal.decreases-lines
decreases-lines l = l.left
