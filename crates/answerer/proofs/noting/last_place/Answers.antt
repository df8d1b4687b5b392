use Rattle.std.proofs.Common.{◌∙◌, arith}
use Rattle.answerer.proofs.AskLemmas.{finds_last, passes_none, passes_other}
use Rattle.answerer.proofs.noting.last_place.Goals as goal

pub returns-then-ask-feed : goal.returns-then-ask-feed
returns-then-ask-feed c =
    finds_last c.args.feed c.args.asks.now c.loop-left.left c.in-Some.ask c.loop-left-test.true c.loop-left.invariant.within c.in-Some.is c.if-ask-feed.true ∙ c.loop-left.invariant.same

pub loop-left-preserved-else-ask-feed : goal.loop-left-preserved-else-ask-feed
loop-left-preserved-else-ask-feed c = record {
  within = omega (arith, c.loop-left.invariant.within);
  same = passes_other c.args.feed c.args.asks.now c.loop-left.left c.in-Some.ask c.loop-left-test.true c.loop-left.invariant.within c.in-Some.is c.if-ask-feed.false ∙ c.loop-left.invariant.same;
}

pub loop-left-preserved : goal.loop-left-preserved
loop-left-preserved c = record {
  within = omega (arith, c.loop-left.invariant.within);
  same = passes_none c.args.feed c.args.asks.now c.loop-left.left c.loop-left-test.true c.loop-left.invariant.within c.in_default.is ∙ c.loop-left.invariant.same;
}
