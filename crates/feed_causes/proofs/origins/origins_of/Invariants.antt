use Rattle.std.proofs.Common.{◌≡◌, ◌++◌, drop}
use Rattle.feed_causes.specs.Search.{origins_from}
use Rattle.feed_causes.proofs.origins.origins_of.Given as goal

abbrev pub invariant-loop-place : goal.invariant-loop-place
invariant-loop-place l = l.origins ++ origins_from l.all l.place (drop l.place l.all) ≡ origins_from l.all 0 l.all
