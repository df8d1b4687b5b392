use Rattle.std.proofs.Common.{◌∙◌, length, ap, subst, sym}
use Rattle.std.proofs.lemmas.Result.{IfOk-weaker}
use Rattle.fair_semantics.specs.Fits.{RunFits}
use Rattle.log_replay.specs.Shared.{kept_run, shown_all}
use Rattle.log_replay.proofs.MadeLemmas.{expected_fits}
use Rattle.log_replay.proofs.ReplayLemmas.{finished_count, kept_settle, replayed, runs_count, settlements_count}
use Rattle.log_replay.proofs.SettledLemmas.{sources_linked}
use Rattle.log_replay.proofs.replaying.expected_runs.Goals as goal

pub settlements_of-requires-clause-many : goal.settlements_of-requires-clause-many
settlements_of-requires-clause-many c = ap length (c.as_slice.ensures.same ∙ c.requires.made) ∙ runs_count (kept_run c.args.plan.now c.args.run.now) (length c.args.plan.now.actors) ∙ sym c.requires.fits.actors

pub settlements_of-requires-clause-exist : goal.settlements_of-requires-clause-exist
settlements_of-requires-clause-exist c = sources_linked c.args.plan.now c.args.run.now c.requires.fits

pub finished_runs-requires : goal.finished_runs-requires
finished_runs-requires c =
    let same = c.as_slice.ensures.same in
    let many = ap length (same ∙ c.requires.made) ∙ runs_count (kept_run c.args.plan.now c.args.run.now) (length c.args.plan.now.actors) ∙ sym c.requires.fits.actors in
    record { many = ap length c.in_ok-settlements.ensures ∙ settlements_count (shown_all c.args.run.now.actors c.as_slice.result.now) c.args.run.now 0 c.as_slice.result.now c.args.run.now.actors many ∙ ap length same }

pub returns-clause-expected : goal.returns-clause-expected
returns-clause-expected c =
    IfOk-weaker c.finished_runs.result _ _
    (λ runs is.
    replayed c.args.plan.now c.args.run.now c.args.made c.as_slice.result.now c.in_ok-settlements.settlements runs c.requires.typed c.requires.fits c.requires.texts (kept_settle c.args.plan.now c.args.run.now c.args.made c.requires.fits c.requires.made) c.as_slice.ensures.same c.in_ok-settlements.ensures is)
    c.finished_runs.ensures

pub returns-clause-fits : goal.returns-clause-fits
returns-clause-fits c =
    IfOk-weaker c.finished_runs.result _ _
    (λ runs is.
    let same =
    replayed c.args.plan.now c.args.run.now c.args.made c.as_slice.result.now c.in_ok-settlements.settlements runs c.requires.typed c.requires.fits c.requires.texts (kept_settle c.args.plan.now c.args.run.now c.args.made c.requires.fits c.requires.made) c.as_slice.ensures.same c.in_ok-settlements.ensures is
    in subst (RunFits c.args.plan.now) (sym same) (expected_fits c.args.plan.now c.args.run.now c.requires.typed c.requires.texts c.requires.fits))
    c.finished_runs.ensures

pub returns-clause-many : goal.returns-clause-many
returns-clause-many c =
    let same = c.as_slice.ensures.same in
    let counted = ap length c.requires.made ∙ runs_count (kept_run c.args.plan.now c.args.run.now) (length c.args.plan.now.actors) in
    let many = ap length same ∙ counted ∙ sym c.requires.fits.actors in
    let settled = ap length c.in_ok-settlements.ensures ∙ settlements_count (shown_all c.args.run.now.actors c.as_slice.result.now) c.args.run.now 0 c.as_slice.result.now c.args.run.now.actors many ∙ ap length same in
    IfOk-weaker c.finished_runs.result _ _ (λ runs is. ap length is ∙ finished_count c.args.plan.now 0 c.args.made c.in_ok-settlements.settlements settled ∙ counted) c.finished_runs.ensures
