use Rattle.log_replay.proofs.AcceptedLemmas.{linked_is_expected}
use Rattle.log_replay.proofs.law.expected_law.Goals as goal

pub returns : goal.returns
returns c = linked_is_expected
