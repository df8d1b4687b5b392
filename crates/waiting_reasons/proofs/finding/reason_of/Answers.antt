use Rattle.waiting_reasons.specs.Inside.{HasPatterns}
use Rattle.waiting_reasons.proofs.BestLemmas.{found_has}
use Rattle.waiting_reasons.proofs.WaysLemmas.{Suit, counts}
use Rattle.waiting_reasons.proofs.finding.reason_of.Goals as goal

pub fullest-requires-clause-all : goal.fullest-requires-clause-all
fullest-requires-clause-all c = counts c.args.messages.now c.args.definition.now c.in_ok-ways.ways c.in_ok-ways.ensures.all

pub returns-in-Some-clause-suits : goal.returns-in-Some-clause-suits
returns-in-Some-clause-suits c = found_has (Suit c.args.messages.now c.args.definition.now) c.in_ok-ways.ways c.in-Some.slots c.in_ok-ways.ensures.all c.in-Some.ensures

pub returns-in-Some-clause-counts : goal.returns-in-Some-clause-counts
returns-in-Some-clause-counts c =
    found_has (HasPatterns c.args.definition.now) c.in_ok-ways.ways c.in-Some.slots (counts c.args.messages.now c.args.definition.now c.in_ok-ways.ways c.in_ok-ways.ensures.all) c.in-Some.ensures
