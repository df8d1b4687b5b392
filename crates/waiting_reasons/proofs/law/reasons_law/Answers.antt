use Rattle.waiting_reasons.proofs.LawLemmas.{reasons_are_true}
use Rattle.waiting_reasons.proofs.law.reasons_law.Goals as goal

pub returns : goal.returns
returns c = reasons_are_true
