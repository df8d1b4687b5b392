use Rattle.log_replay.proofs.BackLemmas.{expected_is_linked}
use Rattle.log_replay.proofs.law.linked_law.Goals as goal

pub returns : goal.returns
returns c = expected_is_linked
