use Rattle.std.proofs.Common.{◌∙◌, length, arith, ap, subst, sym}
use Rattle.schedule_law.specs.Reached.{FeedsFit}
use Rattle.building_load.specs.Building.{load_plan}
use Rattle.building_load.specs.Rows.{load_feeds}
use Rattle.building_load.proofs.RowLemmas.{load_feeds_fit}
use Rattle.actor_tests.proofs.FeedLemmas.{feeds_fit}
use Rattle.actor_tests.proofs.system.runs_building.Goals as goal

pub new-requires-clause-count : goal.new-requires-clause-count
new-requires-clause-count g c =
    let four = ap length (c.in_ok-lists.ensures.same ∙ c.in_ok-feeds.ensures.feeds) in
    (omega (arith, four), omega (arith, four))

pub new-requires-clause-values : goal.new-requires-clause-values
new-requires-clause-values g c =
    subst FeedsFit (sym (c.in_ok-lists.ensures.same ∙ c.in_ok-feeds.ensures.feeds)) (feeds_fit load_plan (load_feeds 252) (load_feeds_fit 252 (omega arith)))
