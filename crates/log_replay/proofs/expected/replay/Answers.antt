use Rattle.std.proofs.Common.{◌∙◌, length, ap, subst, sym}
use Rattle.fair_semantics.specs.Fits.{RunFits}
use Rattle.log_replay.proofs.MadeLemmas.{expected_fits}
use Rattle.log_replay.proofs.SettledLemmas.{sources_linked}
use Rattle.log_replay.proofs.WholeLemmas.{replayed_whole, settled_many, whole_many}
use Rattle.log_replay.proofs.expected.replay.Goals as goal

pub settlements_of-requires-clause-many : goal.settlements_of-requires-clause-many
settlements_of-requires-clause-many g c = ap length c.as_slice.ensures.same ∙ whole_many c.args.plan.now c.args.run.now c.in_ok-made.made c.requires.fits c.in_ok-made.ensures.runs

pub settlements_of-requires-clause-exist : goal.settlements_of-requires-clause-exist
settlements_of-requires-clause-exist g c = sources_linked c.args.plan.now c.args.run.now c.requires.fits

pub finished_runs-requires : goal.finished_runs-requires
finished_runs-requires g c =
    let many = whole_many c.args.plan.now c.args.run.now c.in_ok-made.made c.requires.fits c.in_ok-made.ensures.runs in
    record { many = settled_many c.args.run.now c.in_ok-made.made c.as_slice.result.now c.in_ok-settlements.settlements many c.as_slice.ensures.same c.in_ok-settlements.ensures }

pub returns-clause-expected : goal.returns-clause-expected
returns-clause-expected g c =
    replayed_whole c.args.plan.now c.args.run.now c.in_ok-made.made c.as_slice.result.now c.in_ok-settlements.settlements c.in_ok-finished.finished c.in_ok-actors.actors c.requires.typed c.requires.fits c.in_ok-made.ensures.texts
    c.in_ok-made.ensures.runs c.as_slice.ensures.same c.in_ok-settlements.ensures c.in_ok-finished.ensures c.in_ok-actors.ensures

pub returns-clause-fits : goal.returns-clause-fits
returns-clause-fits g c =
    let same =
    replayed_whole c.args.plan.now c.args.run.now c.in_ok-made.made c.as_slice.result.now c.in_ok-settlements.settlements c.in_ok-finished.finished c.in_ok-actors.actors c.requires.typed c.requires.fits c.in_ok-made.ensures.texts
    c.in_ok-made.ensures.runs c.as_slice.ensures.same c.in_ok-settlements.ensures c.in_ok-finished.ensures c.in_ok-actors.ensures
    in subst (RunFits c.args.plan.now) (sym same) (expected_fits c.args.plan.now c.args.run.now c.requires.typed c.in_ok-made.ensures.texts c.requires.fits)
