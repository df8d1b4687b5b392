use Rattle.std.proofs.Common.{◌≡◌, length, ap, arith}
use Rattle.log_replay.proofs.FoundLemmas.{lines_few}
use Rattle.log_audit.proofs.AuditLemmas.{audited, of_other_feeds}
use Rattle.log_audit.proofs.answer.audit.Goals as goal

pub compare-requires-clause-actors : goal.compare-requires-clause-actors
compare-requires-clause-actors g c = omega (arith, c.requires.typed.few_actors, c.in-Ok-read_log.ensures.answer.fits.actors)

pub compare-requires-clause-small : goal.compare-requires-clause-small
compare-requires-clause-small g c =
    let log = c.in-Ok-read_log.ensures.answer in
    let few = lines_few c.args.plan.now c.in-Ok-read_log.read c.requires.typed log.fits in
    omega (arith, few, ap length log.text)

pub returns-in-Ok-compare : goal.returns-in-Ok-compare
returns-in-Ok-compare g c = record {
  answer = audited c.args.plan.now c.args.bytes.now c.args.feeds.now c.in-Ok-read_log.read c.in-Ok.count c.requires.typed c.in-Ok-read_log.ensures.answer c.in-Ok.ensures.answer c.in-Ok-compare.ensures;
}

pub returns : goal.returns
returns g c = record {
  answer =
      of_other_feeds c.args.plan.now c.args.bytes.now c.args.feeds.now c.in-Ok-read_log.read c.in-Ok.count c.requires.typed c.in-Ok-read_log.ensures.answer c.in-Ok.ensures.answer c.in-Err-compare.refusal c.in-Err-compare.ensures;
}
