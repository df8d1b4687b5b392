use Rattle.building_load.proofs.LineLemmas.{line_written}
use Rattle.building_load.specs.Summary.{actor_lines}
use Rattle.std.proofs.Common.{◌++◌}
use Rattle.building_load.proofs.totals.write_actors.Goals as goal

pub loop-place-preserved : goal.loop-place-preserved
loop-place-preserved c =
    line_written c.args.plan.now.actors c.args.runs.now c.loop-place.place c.at.result.now c.index-runs-place.result (c.args.text.now ++ actor_lines c.args.plan.now.actors c.args.runs.now) c.loop-place.text c.write_actor.new.text
    c.requires c.loop-place-test.true c.at.ensures.item c.index-runs-place.is c.loop-place.invariant c.in_ok-write_actor.ensures
