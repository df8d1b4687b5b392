use Rattle.std.proofs.Common.{◌∙◌, ℕ, sym}
use Rattle.pattern_core.specs.Choice.{lesser_of}
use Rattle.row_screens.specs.Offering.{offered, MayTake}
use Rattle.row_screens.proofs.MatchLemmas.{left_first, matches_more}
use Rattle.row_screens.proofs.trial.match_among.Goals as goal

pub loop-pattern-preserved : goal.loop-pattern-preserved
loop-pattern-preserved c =
    let a = c.args in
    let o = offered a.offer.now in
    let ps = c.as_slice-pattern-items.result.now in
    let i : ℕ = c.loop-pattern.pattern-index in
    record {
      best = c.better-best.ensures ∙ (λ j. lesser_of (c.loop-pattern.invariant.best j) (c.match_at-in-loop-pattern.ensures j)) ∙ sym (matches_more o a.slots.now ps i c.loop-pattern-test.true);
      left = (left_first (MayTake o a.slots.now) ps i 0 c.loop-pattern-test.true c.loop-pattern.invariant.left).1;
    }
