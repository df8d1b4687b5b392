use Rattle.std.proofs.Common.{◌∙◌, sym}
use Rattle.actor_tests.proofs.CellLemmas.{prepared_tags}
use Rattle.actor_tests.proofs.by_cells.prepared.Goals as goal

pub returns-clause-tags : goal.returns-clause-tags
returns-clause-tags c = prepared_tags _ _ _ _ _ _ c.in_ok-made.ensures.prepared

pub returns-clause-links : goal.returns-clause-links
returns-clause-links c = λ k d lt. (c.in_ok-made.ensures.prepared.each k d lt).count ∙ sym c.in_ok-made.ensures.prepared.count
