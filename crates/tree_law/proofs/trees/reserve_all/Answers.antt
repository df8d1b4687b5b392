use Rattle.std.proofs.Common.{◌∙◌}
use Rattle.tree_law.proofs.LoopLemmas.{settled_same, settled_twice}
use Rattle.tree_law.proofs.trees.reserve_all.Goals as goal

pub returns-in-Ok-clause-same : goal.returns-in-Ok-clause-same
returns-in-Ok-clause-same g c = c.reserve_each.ensures.same ∙ settled_same c.args.trees.now c.requires.settled

pub returns-in-Err-clause-same : goal.returns-in-Err-clause-same
returns-in-Err-clause-same g c =
    settled_twice c.reserve_each.new.trees c.forget_all.new.trees c.forget_all.ensures ∙ c.reserve_each.ensures.same ∙ settled_same c.args.trees.now c.requires.settled

pub returns-in-Err-clause-unchanged : goal.returns-in-Err-clause-unchanged
returns-in-Err-clause-unchanged g c = c.forget_all.ensures ∙ c.reserve_each.ensures.same ∙ settled_same c.args.trees.now c.requires.settled
