use Rattle.settling_law.proofs.MetLemmas.{met_is_arrived}
use Rattle.settling_law.proofs.SettledLemmas.{settled_is_linked}
use Rattle.settling_law.proofs.law.settled_law.Goals as goal

pub returns : goal.returns
returns c = record { linked = settled_is_linked; arrived = met_is_arrived }
