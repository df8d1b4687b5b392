use Rattle.script_grammar.proofs.RefusalLemmas.{refusal_stays}
use Rattle.script_grammar.proofs.ScriptLemmas.{one_tree, one_refusal}
use Rattle.script_grammar.proofs.outline.one_answer.Goals as goal

pub returns-clause-tree : goal.returns-clause-tree
returns-clause-tree c = one_tree

pub returns-clause-refusal : goal.returns-clause-refusal
returns-clause-refusal c = one_refusal

pub returns-clause-stays : goal.returns-clause-stays
returns-clause-stays c = refusal_stays
