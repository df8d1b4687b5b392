use Rattle.std.proofs.Common.{arith}
use Rattle.actor_pool.proofs.WorkLemmas.{works-further, works-not}
use Rattle.actor_pool.proofs.working.work_on.Goals as goal

pub loop-init : goal.loop-init
loop-init g c = record { belongs = c.requires.belongs; works = works-not _ _ _ c.requires.own; nones = omega arith; fits = c.requires.fits }

pub returns-in_err-found-clause-works : goal.returns-in_err-found-clause-works
returns-in_err-found-clause-works g c = works-further _ _ _ _ _ _ _ c.loop.invariant.works c.in_err-found.ensures.works

pub returns-then-ended-clause-works : goal.returns-then-ended-clause-works
returns-then-ended-clause-works g c = works-further _ _ _ _ _ _ _ c.loop.invariant.works c.in_ok-found.ensures.works

pub returns-then-ended-clause-found_none : goal.returns-then-ended-clause-found_none
returns-then-ended-clause-found_none g c =
    let none = c.in_ok-found.ensures.found_none c.if-not-found.true in
    omega (arith, c.loop.invariant.nones, none)

pub loop-preserved-then-not-found : goal.loop-preserved-then-not-found
loop-preserved-then-not-found g c =
    let before = c.loop.invariant in
    let step = c.in_ok-found.ensures in
    record { belongs = step.belongs; works = works-further _ _ _ _ _ _ _ before.works step.works; nones = omega (arith, before.nones, step.nones); fits = step.fits }

pub loop-preserved : goal.loop-preserved
loop-preserved g c =
    let before = c.loop.invariant in
    let step = c.in_ok-found.ensures in
    record { belongs = step.belongs; works = works-further _ _ _ _ _ _ _ before.works step.works; nones = omega (arith, before.nones, step.nones); fits = step.fits }
