use Rattle.script_check.proofs.CheckLemmas.{all_small, gives_plan, outlined, typed_plan}
use Rattle.script_check.proofs.check.plan_of.Goals as goal

pub plan_at-requires : goal.plan_at-requires
plan_at-requires c = record {
  outline = outlined c.args.bytes.now c.args.outline.now c.requires.spelt c.in_ok-tokens.tokens c.in_ok-tokens.ensures;
  small = all_small c.args.bytes.now c.args.outline.now c.requires.spelt c.in_ok-tokens.tokens c.in_ok-tokens.ensures c.requires.no_fault;
}

pub returns-in-Ok-clause-plan : goal.returns-in-Ok-clause-plan
returns-in-Ok-clause-plan c =
    gives_plan c.args.bytes.now c.args.outline.now c.requires.spelt c.in_ok-tokens.tokens c.in_ok-tokens.ensures c.in-Ok.plan c.requires.no_fault c.in-Ok.ensures.plan

pub returns-in-Ok-clause-typed : goal.returns-in-Ok-clause-typed
returns-in-Ok-clause-typed c =
    typed_plan c.args.bytes.now c.args.outline.now c.requires.spelt c.in_ok-tokens.tokens c.in_ok-tokens.ensures c.in-Ok.plan c.requires.no_fault c.in-Ok.ensures.plan c.in-Ok.ensures.names
