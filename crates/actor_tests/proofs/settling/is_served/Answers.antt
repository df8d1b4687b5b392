use Rattle.std.proofs.Common.{◌∙◌}
use Rattle.actor_tests.proofs.CellLemmas.{served-count, served_tags}
use Rattle.actor_tests.proofs.settling.is_served.Goals as goal

pub returns-clause-tags : goal.returns-clause-tags
returns-clause-tags g c = served_tags _ _ _ _ c.serve-served.ensures.served

pub returns-clause-one : goal.returns-clause-one
returns-clause-one g c = served-count _ _ _ _ c.serve-served.ensures.served ∙ c.requires.one
