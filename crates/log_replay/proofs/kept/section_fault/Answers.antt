use Rattle.std.proofs.Common.{◌∙◌, length, arith}
use Rattle.log_replay.specs.Kept.{earlier}
use Rattle.log_replay.specs.Shared.{shown_run}
use Rattle.log_replay.proofs.FaultLemmas.{links_more}
use Rattle.log_replay.proofs.SharedLemmas.{link_is}
use Rattle.log_replay.proofs.kept.section_fault.Goals as goal

pub loop-from-preserved : goal.loop-from-preserved
loop-from-preserved c =
    let below = c.loop-from-test.true in
    let fault =
    link_is c.args.run.now c.args.expected.now c.args.to c.args.line c.args.own.now c.loop-from.from c.as_slice-reads.result.now c.posts_shown-posts.result c.as_slice.result.now c.runs_on-runs_on.result
    c.len-late.result c.link_fault-fault.result c.as_slice-reads.ensures.same c.posts_shown-posts.ensures c.as_slice.ensures.same c.runs_on-runs_on.ensures c.len-late.ensures.count c.link_fault-fault.ensures
    in
    let first = c.earlier-first.ensures in record {
      left =
          links_more c.args.run.now (shown_run c.args.run.now c.args.expected.now) c.args.to c.args.line c.args.own.now c.loop-from.first c.earlier-first.result _ c.loop-from.from (length c.args.run.now.actors) (omega (arith, below, c.len.ensures.count))
          (first ∙ (λ i. earlier c.loop-from.first (fault i))) c.loop-from.invariant.left;
      within = omega (arith, below, c.len.ensures.count);
    }
