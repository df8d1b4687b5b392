use Rattle.std.proofs.Common.{◌∙◌, ap, arith, length}
use Rattle.fair_semantics.specs.Step.{recorded_messages}
use Rattle.waiting_reasons.proofs.SuitLemmas.{few_rules, told_suit}
use Rattle.waiting_reasons.proofs.why.print_why.Goals as goal

pub write_why-requires-clause-all : goal.write_why-requires-clause-all
write_why-requires-clause-all c =
    told_suit c.args.plan.now c.args.actor c.requires.typed c.args.run.now c.requires.fits c.rules_at-rules.result.now c.as_slice.result.now
    c.rules_at-rules.ensures (c.as_slice.ensures.same ∙ c.in_ok-messages.ensures.same ∙ ap recorded_messages c.entries_at-entries.ensures)

pub write_why-requires-clause-few : goal.write_why-requires-clause-few
write_why-requires-clause-few c = omega (arith, ap length c.rules_at-rules.ensures, few_rules c.args.plan.now c.args.actor c.requires.typed)
