use Rattle.feed_causes.proofs.LawLemmas.{origins_posted}
use Rattle.feed_causes.proofs.law.origin_law.Goals as goal

pub returns : goal.returns
returns c = record { posted = origins_posted }
