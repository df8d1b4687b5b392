use Rattle.std.proofs.Common.{◌∙◌, List, ap, get_or, length, arith}
use Rattle.fair_semantics.specs.declared.run.ActorRun.{ActorRun}
use Rattle.arrival_log.specs.LogText.{head_line}
use Rattle.log_replay.proofs.WrittenLemmas.{parted_is, section_behind}
use Rattle.log_replay.proofs.section.parted_at.Goals as goal

pub loop-place-preserved : goal.loop-place-preserved
loop-place-preserved c =
    let many = ap length c.as_slice-read-items.ensures.same in
    let read_all = c.as_slice-read-items.ensures.same in
    let l = c.loop-place-test.true in
    record {
      left =
          section_behind c.args.plan.now c.args.run.now.version c.args.bytes.now c.args.run.now.actors c.args.expected.now c.loop-place.place c.at-named.result.now c.read-item.result c.index-expected-place.result c.loop-place.progress c.in_ok-progress-2.progress _
          (omega (arith, l, many, c.requires.reads)) (omega (arith, l, many)) (omega (arith, l, many, c.requires.reads, c.requires.many)) c.at-named.ensures.item (c.read-item.is ∙ ap (λ (rs : List ActorRun). get_or rs c.loop-place.place c.read-item.result) read_all) c.index-expected-place.is
          c.in_ok-progress-2.ensures.progress c.loop-place.invariant.left;
      within = c.in_ok-progress-2.ensures.within;
    }

pub returns-clause-lines : goal.returns-clause-lines
returns-clause-lines c =
    let many = ap length c.as_slice-read-items.ensures.same in
    parted_is c.args.plan.now c.args.run.now.version c.args.bytes.now c.args.run.now.actors c.args.expected.now (head_line c.args.run.now) c.loop-place.place c.in_ok-progress.progress c.loop-place.progress c.parted.result
    (omega (arith, c.loop-place-test.false, many, c.requires.reads)) c.in_ok-progress.ensures.progress c.loop-place.invariant.left c.parted.ensures.lines
