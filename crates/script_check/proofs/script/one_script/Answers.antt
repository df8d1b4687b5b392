use Rattle.script_check.proofs.ScriptLemmas.{no_fault, one_fault, one_plan}
use Rattle.script_check.proofs.script.one_script.Goals as goal

pub returns-clause-plan : goal.returns-clause-plan
returns-clause-plan c = one_plan c.one_answer.ensures.tree c.one_answer-2.ensures.plan

pub returns-clause-both : goal.returns-clause-both
returns-clause-both c = no_fault c.one_answer.ensures.tree c.one_answer.ensures.both c.one_answer-2.ensures.both

pub returns-clause-fault : goal.returns-clause-fault
returns-clause-fault c = one_fault c.one_answer.ensures.tree c.one_answer.ensures.both c.one_answer.ensures.fault c.one_answer-2.ensures.fault
