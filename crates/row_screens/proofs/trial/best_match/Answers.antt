use Rattle.std.proofs.Common.{◌∙◌}
use Rattle.row_screens.specs.Offering.{offered}
use Rattle.row_screens.proofs.FreeLemmas.{none_match}
use Rattle.row_screens.proofs.trial.best_match.Goals as goal

pub returns-then-leave_one_free : goal.returns-then-leave_one_free
returns-then-leave_one_free c =
    let o = offered c.args.offer.now in
    none_match o c.args.slots.now c.args.patterns.now (λ p free. c.leave_one_free.ensures p free ∙ c.if-leave_one_free.true) c.requires.may
