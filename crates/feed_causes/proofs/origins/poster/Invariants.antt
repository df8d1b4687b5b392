use Rattle.std.proofs.Common.{◌≡◌, drop, slice_get}
use Rattle.feed_causes.specs.Causes.{posters}
use Rattle.feed_causes.proofs.origins.poster.Given as goal

abbrev pub invariant-loop-place : goal.invariant-loop-place
invariant-loop-place l = slice_get (posters l.fn.from l.fn.to l.place (drop l.place l.all)) l.left ≡ slice_get (posters l.fn.from l.fn.to 0 l.all) l.fn.behind
