use Rattle.log_replay.proofs.AcceptedLemmas.{linked_is_accepted}
use Rattle.log_replay.proofs.law.accepted_law.Goals as goal

pub returns : goal.returns
returns c = linked_is_accepted
