use Rattle.script_plan.proofs.script.rule_plan_at.Goals as goal

pub rule_of-requires : goal.rule_of-requires
rule_of-requires c = rw c.in_ok-rule.ensures.gives at c.requires.small

pub returns-clause-gives : goal.returns-clause-gives
returns-clause-gives c = record { phrase = c.in_ok-rule.rule; reads = c.in_ok-rule.ensures.gives; holds = c.in_ok-plan.ensures }
