use Rattle.std.proofs.Common.{rules, ◌∙◌, sym, true≢false}
use borrow.Author.Count.{below_more}
use Rattle.pool_settling.proofs.EndLemmas.{not_served, serves_at}
use Rattle.pool_settling.proofs.draining.place_of.Goals as goal
use Rattle.pool_settling.proofs.draining.place_of.Goals.{else-is_source-via-then-is_source+else-sender-target, else-is_source-via-else-is_source}

pub loop-i-preserved : goal.loop-i-preserved
loop-i-preserved c =
    below_more _ _ c.loop-i.invariant (not_served c.args.senders.now c.loop-i.i c.index-senders-i.result c.args.source c.args.target (search rules) (sym c.index-senders-i.is) (
    elim c.else-is_source.branch [
      | else-is_source-via-then-is_source+else-sender-target w ↦ λ same. w.if-sender-target.false same.1
      | else-is_source-via-else-is_source w ↦ λ same. true≢false (sym (c.is_source.ensures.1 same.0) ∙ w.if-is_source.false)
    ]))

pub returns-then-sender-target-clause-serves : goal.returns-then-sender-target-clause-serves
returns-then-sender-target-clause-serves c = serves_at c.args.senders.now c.loop-i.i c.index-senders-i.result c.args.source c.args.target (search rules) (sym c.index-senders-i.is) (search rules)
