use Rattle.feed_answers.proofs.GrowLemmas.{answers_stay, stamps_no_matter}
use Rattle.feed_answers.proofs.law.answers_law.Goals as goal

pub returns : goal.returns
returns c = record { stay = answers_stay; bare = stamps_no_matter }
