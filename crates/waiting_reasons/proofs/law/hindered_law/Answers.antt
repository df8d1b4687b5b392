use Rattle.waiting_reasons.proofs.LawLemmas.{further_are_hindered}
use Rattle.waiting_reasons.proofs.law.hindered_law.Goals as goal

pub returns : goal.returns
returns c = further_are_hindered
