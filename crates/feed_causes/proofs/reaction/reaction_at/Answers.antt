use Rattle.feed_causes.proofs.ReactionLemmas.{is_at}
use Rattle.feed_causes.proofs.reaction.reaction_at.Goals as goal

pub returns : goal.returns
returns c = record {
  at = is_at c.args.all.now c.args.place c.in_ok-marks.marks c.as_slice-seen.result.now c.in_ok-rows.rows c.as_slice-shown.result.now c.in_ok-reaction.reaction c.in_ok-marks.ensures.marks c.as_slice-seen.ensures.same c.in_ok-rows.ensures c.as_slice-shown.ensures.same c.in_ok-reaction.ensures.short;
}
