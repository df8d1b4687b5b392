use Rattle.std.proofs.Common.{◌∙◌, ◌<◌, ◌^◌, List, length, refl, sym, ap, subst, arith}
use Rattle.guard_eval.proofs.ReadyLemmas.{each_at}
use Rattle.fair_semantics.specs.declared.run.ActorRun.{ActorRun}
use Rattle.fair_semantics.specs.declared.run.Entry.{Entry}
use Rattle.answerer.specs.Fit.{AreAllTried, Fits}
use Rattle.ask_run.specs.Reading.{HasFewEntries}
use Rattle.ask_run.proofs.ReadLemmas.{fits_step, read_at, tries_all, tries_none, tries_step}
use Rattle.ask_run.proofs.reading.read_run.Goals as goal

pub loop-place-init : goal.loop-place-init
loop-place-init c = record { board = refl; fits = c.requires.fits; tried = tries_none c.args.run.now c.args.answerer }

pub read-requires : goal.read-requires
read-requires c =
    let there = read_at c.args.run.now c.as_slice-runs.result.now c.loop-place.place c.index-runs-place.result c.as_slice-runs.ensures.same c.loop-place-test.true c.index-runs-place.is in
    record {
      below = omega (arith, c.requires.few, ap length c.as_slice-runs.ensures.same, c.loop-place-test.true);
      few = subst (λ (es : List Entry). length es < 2 ^ 32) (sym c.as_slice.ensures.same) (each_at HasFewEntries c.args.run.now.actors c.loop-place.place c.index-runs-place.result there c.requires.small);
      fits = subst (λ (es : List Entry). Fits c.loop-place.answerer c.loop-place.place es) (sym c.as_slice.ensures.same) (c.loop-place.invariant.fits c.loop-place.place c.index-runs-place.result there);
    }

pub loop-place-preserved : goal.loop-place-preserved
loop-place-preserved c =
    let own : ActorRun = c.index-runs-place.result in
    let there = read_at c.args.run.now c.as_slice-runs.result.now c.loop-place.place own c.as_slice-runs.ensures.same c.loop-place-test.true c.index-runs-place.is in
    let same = c.as_slice.ensures.same in
    let fits = subst (λ (es : List Entry). Fits c.read.new.self c.loop-place.place es) same c.read.ensures.fits in
    let tried = subst (λ (es : List Entry). AreAllTried c.read.new.self c.loop-place.place es) same c.in_ok-read.ensures.tried in
    record {
      board = c.read.ensures.goes_on.board ∙ c.loop-place.invariant.board;
      fits = fits_step c.args.run.now c.loop-place.place own c.loop-place.answerer c.read.new.self there c.read.ensures.others fits c.loop-place.invariant.fits;
      tried = tries_step c.args.run.now c.loop-place.place own c.loop-place.answerer c.read.new.self there c.read.ensures.goes_on tried c.loop-place.invariant.tried;
    }

pub returns-clause-tried : goal.returns-clause-tried
returns-clause-tried c = tries_all c.args.run.now c.as_slice-runs.result.now c.loop-place.place c.loop-place.answerer c.as_slice-runs.ensures.same c.loop-place-test.false c.loop-place.invariant.tried
