use Rattle.feed_answers.proofs.NumberedLemmas.{numbered_run}
use Rattle.feed_answers.proofs.law.numbered_law.Goals as goal

pub returns : goal.returns
returns c = numbered_run
