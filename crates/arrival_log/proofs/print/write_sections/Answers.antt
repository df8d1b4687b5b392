use Rattle.arrival_log.proofs.SectionLemmas.{section_written}
use Rattle.arrival_log.proofs.print.write_sections.Goals as goal

pub loop-place-preserved : goal.loop-place-preserved
loop-place-preserved c =
    section_written c.args.plan.now c.args.version c.args.runs.now c.loop-place.place c.at.result.now c.index-runs-place.result c.args.text.now c.loop-place.text c.write_actor.new.text
    c.requires c.loop-place-test.true c.at.ensures.item c.index-runs-place.is c.loop-place.invariant c.in_ok-write_actor.ensures.ok
