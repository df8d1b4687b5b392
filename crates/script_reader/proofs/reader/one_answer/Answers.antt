use Rattle.script_reader.proofs.SpellsLemmas.{one_tree, no_both, one_fault}
use Rattle.script_reader.proofs.reader.one_answer.Goals as goal

pub returns-clause-tree : goal.returns-clause-tree
returns-clause-tree c = one_tree c.one_list.ensures.one c.one_answer.ensures.tree c.one_answer.ensures.refusal

pub returns-clause-both : goal.returns-clause-both
returns-clause-both c = no_both c.one_list.ensures.one c.one_answer.ensures.tree c.one_answer.ensures.refusal

pub returns-clause-fault : goal.returns-clause-fault
returns-clause-fault c = one_fault c.one_list.ensures.one c.one_answer.ensures.tree c.one_answer.ensures.refusal
