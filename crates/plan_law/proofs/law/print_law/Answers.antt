use Rattle.place_law.proofs.LawLemmas.{places_do_not_matter}
use Rattle.plan_law.proofs.LawLemmas.{plans_read_back, plans_spell_their_tree}
use Rattle.plan_law.proofs.law.print_law.Goals as goal

pub returns-clause-spells : goal.returns-clause-spells
returns-clause-spells c = plans_spell_their_tree

pub returns-clause-reads : goal.returns-clause-reads
returns-clause-reads c = plans_read_back places_do_not_matter
