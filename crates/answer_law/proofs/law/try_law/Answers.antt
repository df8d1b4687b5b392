use Rattle.answer_law.proofs.TryLemmas.{readers_try}
use Rattle.answer_law.proofs.law.try_law.Goals as goal

pub returns : goal.returns
returns c = readers_try
