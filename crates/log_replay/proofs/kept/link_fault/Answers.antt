use Rattle.std.proofs.Common.{◌∙◌, ◌+◌, drop, sym, ap}
use Rattle.log_posts.specs.Posts.{has_message}
use Rattle.log_replay.specs.Kept.{link_fault}
use Rattle.log_replay.proofs.FaultLemmas.{entry_arrived, entry_passed, entry_small}
use Rattle.log_replay.proofs.kept.link_fault.Goals as goal
use Rattle.log_replay.proofs.kept.link_fault.Goals.{then-is_from+else-not-has_message, else-is_from}

pub loop-entry-preserved : goal.loop-entry-preserved
loop-entry-preserved c =
    let i = c.loop-entry.invariant in
    let e = c.entry-item.result in record {
      told =
          elim c.if-is_from.branch [
            | then-is_from+else-not-has_message w ↦
                entry_arrived c.loop-entry.left c.args.from c.args.runs_on c.args.late c.loop-entry.line c.entry_size-line.result c.args.entries.now c.loop-entry.entry-index e _ c.loop-entry-test.true c.entry-item.is c.entry_size-line.ensures i.told c.if-is_from.left
                (sym w.if-is_from.ensures) (ap (λ p. has_message p e.message) (sym w.next.ensures.first) ∙ sym w.if-not-has_message.ensures) (w.left-is ∙ w.next.ensures.rest)
            | else-is_from w ↦
                ap (λ ps. link_fault ps c.args.from c.args.runs_on c.args.late (c.loop-entry.line + c.entry_size-line.result) 0 (drop (c.loop-entry.entry-index + 1) c.args.entries.now)) w.left-is
                ∙ entry_passed c.loop-entry.left c.args.from c.args.runs_on c.args.late c.loop-entry.line c.entry_size-line.result c.args.entries.now c.loop-entry.entry-index e _ c.loop-entry-test.true c.entry-item.is c.entry_size-line.ensures i.told (sym w.if-is_from.ensures)
          ];
      small = entry_small c.loop-entry.left c.args.from c.args.runs_on c.args.late c.loop-entry.line c.entry_size-line.result c.args.entries.now c.loop-entry.entry-index e _ c.loop-entry-test.true c.entry-item.is c.entry_size-line.ensures i.told i.small;
    }
