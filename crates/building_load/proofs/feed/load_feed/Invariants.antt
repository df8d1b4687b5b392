use Rattle.std.proofs.Common.{◌≡◌, ◌-◌, ◌++◌, map}
use Rattle.fair_semantics.specs.Linked.{numbers_from}
use Rattle.building_load.specs.Rows.{load_feed, row_at}
use Rattle.building_load.proofs.feed.load_feed.Given as goal

abbrev pub invariant-loop-place : goal.invariant-loop-place
invariant-loop-place l = l.posts ++ map (row_at (l.hall - 1)) (numbers_from l.place (l.rows - l.place)) ≡ load_feed l.rows l.hall
