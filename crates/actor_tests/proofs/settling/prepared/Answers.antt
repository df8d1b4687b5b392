use Rattle.std.proofs.Common.{◌∙◌}
use Rattle.actor_tests.proofs.settling.prepared.Goals as goal

pub returns-clause-links : goal.returns-clause-links
returns-clause-links c = λ k d lt. c.in_ok-made.ensures.links k d lt ∙ c.in_ok-made.ensures.cells ∙ c.requires.one
