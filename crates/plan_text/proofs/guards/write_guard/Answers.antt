use Rattle.plan_text.proofs.GuardLemmas.{guard_written}
use Rattle.plan_text.proofs.guards.write_guard.Goals as goal

pub returns-after-loop-conjunct : goal.returns-after-loop-conjunct
returns-after-loop-conjunct c =
    guard_written c.args.variables.now c.args.conjuncts.now c.first-item.result c.loop-conjunct.conjunct-index c.args.text.now c.push_all.new.self c.write_conjunct.new.text c.loop-conjunct.text
    c.in-len1-up.len_at_least c.first-item.is c.loop-conjunct-test.false c.in_ok-push_all-in-len1-up.ensures.ok c.in_ok-write_conjunct-in-len1-up.ensures c.loop-conjunct.invariant
