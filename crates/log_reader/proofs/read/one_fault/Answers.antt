use Rattle.log_reader.proofs.ReadLemmas.{faults_are_one_line}
use Rattle.log_reader.proofs.read.one_fault.Goals as goal

pub returns : goal.returns
returns c = faults_are_one_line
