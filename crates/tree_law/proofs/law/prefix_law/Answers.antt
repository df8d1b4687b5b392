use Rattle.tree_law.proofs.PrefixLemmas.{prefixes_are_partial}
use Rattle.tree_law.proofs.law.prefix_law.Goals as goal

pub returns : goal.returns
returns c = prefixes_are_partial
