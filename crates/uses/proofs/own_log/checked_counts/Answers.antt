use Rattle.std.proofs.Common.{◌∙◌, ap, map}
use Rattle.uses.specs.OwnLog.{firing_count}
use Rattle.uses.proofs.OwnLogLemmas.{counts_read}
use Rattle.uses.proofs.own_log.checked_counts.Goals as goal

pub returns-in-Ok-counts_of : goal.returns-in-Ok-counts_of
returns-in-Ok-counts_of g c =
    let counted = c.in-Ok-counts_of.ensures ∙ ap (map firing_count) c.as_slice.ensures.same in
    record { counts = counts_read c.args.plan.now c.args.log.now _ _ _ c.one_run.ensures c.requires.typed c.in_ok-check_log.ensures.answer c.in-Ok.ensures.answer counted }
