use Rattle.plan_text.proofs.PatternLemmas.{pattern_written, patterns_written}
use Rattle.plan_text.proofs.RestLemmas.{rest}
use Rattle.plan_text.proofs.rules.write_patterns.Goals as goal

pub loop-place-preserved : goal.loop-place-preserved
loop-place-preserved c =
    pattern_written c.args.plan.now (rest c.args.kinds.now) c.args.variables.now c.loop-place.place c.row_of-in-loop-place.result.now c.write_pattern.new.text c.loop-place.text c.push_all.new.self c.write_pattern-in-loop-place.new.text
    c.loop-place-test.true c.row_of-in-loop-place.ensures c.loop-place.invariant c.in_ok-push_all-in-len1-up.ensures.ok c.in_ok-write_pattern-in-len1-up-2.ensures

pub returns-after-loop-place : goal.returns-after-loop-place
returns-after-loop-place c =
    patterns_written c.args.plan.now c.args.kinds.now c.args.variables.now c.loop-place.place c.row_of.result.now c.args.text.now c.write_pattern.new.text c.loop-place.text
    c.in-len1-up.len_at_least c.loop-place-test.false c.row_of.ensures c.in_ok-write_pattern-in-len1-up.ensures c.loop-place.invariant
