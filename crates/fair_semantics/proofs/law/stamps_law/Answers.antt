use Rattle.fair_semantics.proofs.StampLemmas.{stamps_are_few, stamps_follow, stamps_rise}
use Rattle.fair_semantics.proofs.law.stamps_law.Goals as goal

pub returns-clause-rise : goal.returns-clause-rise
returns-clause-rise c = stamps_rise

pub returns-clause-follow : goal.returns-clause-follow
returns-clause-follow c = stamps_follow

pub returns-clause-few : goal.returns-clause-few
returns-clause-few c = stamps_are_few
