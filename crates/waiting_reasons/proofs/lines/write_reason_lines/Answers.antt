use Rattle.std.proofs.Common.{subst}
use Rattle.waiting_reasons.specs.Inside.{ReasonSuits}
use Rattle.waiting_reasons.proofs.lines.write_reason_lines.Goals as goal

pub write_patterns-requires-clause-suits : goal.write_patterns-requires-clause-suits
write_patterns-requires-clause-suits c = subst (ReasonSuits c.args.messages.now c.args.rule.now.definition.patterns) c.in-Fullest.is c.requires.suits

pub write_full-requires-clause-suits : goal.write_full-requires-clause-suits
write_full-requires-clause-suits c = subst (ReasonSuits c.args.messages.now c.args.rule.now.definition.patterns) c.in-Fullest.is c.requires.suits
