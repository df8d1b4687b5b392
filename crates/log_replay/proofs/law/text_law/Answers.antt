use Rattle.log_replay.proofs.BackLemmas.{accepted_has_one_text}
use Rattle.log_replay.proofs.law.text_law.Goals as goal

pub returns : goal.returns
returns c = accepted_has_one_text
