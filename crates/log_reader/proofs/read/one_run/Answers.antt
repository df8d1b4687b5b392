use Rattle.log_reader.proofs.ReadLemmas.{logs_are_one_run}
use Rattle.log_reader.proofs.read.one_run.Goals as goal

pub returns : goal.returns
returns c = logs_are_one_run
