use Rattle.log_replay.proofs.MadeLemmas.{accepted_is_expected, accepted_is_linked, accepted_is_scheduled}
use Rattle.log_replay.proofs.law.converse_law.Goals as goal

pub returns-clause-expected : goal.returns-clause-expected
returns-clause-expected c = accepted_is_expected

pub returns-clause-linked : goal.returns-clause-linked
returns-clause-linked c = accepted_is_linked

pub returns-clause-scheduled : goal.returns-clause-scheduled
returns-clause-scheduled c = accepted_is_scheduled
