use Rattle.std.proofs.Common.{◌∙◌, ◌++◌, ℕ, List, ap, sym}
use Rattle.arrival_log.specs.LogText.{entry_lines, stamped}
use Rattle.log_replay.proofs.WrittenLemmas.{entry_behind, none_left}
use Rattle.log_replay.proofs.section.behind_entries.Goals as goal

pub loop-place-preserved : goal.loop-place-preserved
loop-place-preserved c = record {
  left =
      entry_behind c.args.plan.now c.args.version c.args.bytes.now c.args.stamps.now c.args.entries.now c.loop-place.place c.index-entries-place.result c.stamp_or-stamp.result c.bytes.result.now c.loop-place.progress c.behind-progress.result _
      c.loop-place-test.true c.index-entries-place.is c.stamp_or-stamp.ensures
      (c.bytes.ensures.same ∙ c.in_ok-write_entry.ensures.ok ∙ ap (λ (t : List ℕ). t ++ entry_lines c.args.plan.now c.args.version (stamped c.index-entries-place.result c.stamp_or-stamp.result)) c.truncate.ensures) c.behind-progress.ensures.progress
      c.loop-place.invariant.left;
  within = c.behind-progress.ensures.within;
}

pub returns-clause-progress : goal.returns-clause-progress
returns-clause-progress c = sym (none_left c.args.plan.now c.args.version c.args.bytes.now c.args.stamps.now c.args.entries.now c.loop-place.place c.loop-place.progress c.loop-place-test.false) ∙ c.loop-place.invariant.left
