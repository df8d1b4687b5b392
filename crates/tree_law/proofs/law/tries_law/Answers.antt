use Rattle.tree_law.proofs.PairLemmas.{tries_are_few, all_tries_are_few}
use Rattle.tree_law.proofs.law.tries_law.Goals as goal

pub returns-clause-tree : goal.returns-clause-tree
returns-clause-tree c = tries_are_few

pub returns-clause-definitions : goal.returns-clause-definitions
returns-clause-definitions c = all_tries_are_few
