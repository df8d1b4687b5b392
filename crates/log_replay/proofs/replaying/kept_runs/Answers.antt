use Rattle.std.proofs.Common.{length, arith}
use Rattle.log_replay.specs.Shared.{kept_run}
use Rattle.log_replay.proofs.ReplayLemmas.{runs_next, texts_all, texts_next}
use Rattle.log_replay.proofs.replaying.kept_runs.Goals as goal

pub loop-index-preserved : goal.loop-index-preserved
loop-index-preserved g c =
    let i = c.loop-index.invariant in
    let below = c.loop-index-test.true in record {
      left =
          runs_next (kept_run c.args.plan.now c.args.run.now) c.loop-index.index (length c.args.plan.now.actors) c.in_ok-own.own c.loop-index.runs c.push.new.self _ (omega (arith, below, c.len.ensures.count)) c.in_ok-own.ensures.own c.in_ok-push.ensures.ok i.left;
      within = omega (arith, below, c.len.ensures.count);
      texts = texts_next c.args.plan.now c.args.run.now.limits c.loop-index.index i.texts c.in_ok-own.ensures.texts;
    }

pub returns-clause-texts : goal.returns-clause-texts
returns-clause-texts g c = texts_all c.args.plan.now c.args.run.now.limits c.loop-index.index (omega (arith, c.loop-index-test.false, c.len.ensures.count)) c.loop-index.invariant.texts
