use Rattle.std.proofs.Common.{◌∙◌, ap}
use Rattle.guard_eval.specs.Meaning.{needs_of}
use Rattle.guard_eval.specs.Shape.{conjunct_condition}
use Rattle.guard_eval.specs.Standing.{all_filled}
use Rattle.guard_eval.proofs.StandingLemmas.{decided_by_standing}
use Rattle.guard_eval.proofs.standing.decided.Goals as goal

pub returns : goal.returns
returns c =
    c.all_filled.ensures
    ∙ ap all_filled c.conjunct_standing.ensures
    ∙ decided_by_standing c.args.slots.now (needs_of (conjunct_condition c.args.conjunct.now))
