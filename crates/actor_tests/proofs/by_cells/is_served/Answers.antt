use Rattle.actor_tests.proofs.CellLemmas.{served-count, served_tags}
use Rattle.actor_tests.proofs.by_cells.is_served.Goals as goal

pub returns-clause-tags : goal.returns-clause-tags
returns-clause-tags g c = served_tags _ _ _ _ c.serve-served.ensures.served

pub returns-clause-count : goal.returns-clause-count
returns-clause-count g c = served-count _ _ _ _ c.serve-served.ensures.served
