use Rattle.script_check.proofs.CheckLemmas.{one_fault_of}
use Rattle.script_check.proofs.check.one_answer.Goals as goal

pub returns-clause-fault : goal.returns-clause-fault
returns-clause-fault c = one_fault_of
