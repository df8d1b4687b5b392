use Rattle.std.proofs.Common.{length, ap, arith}
use Rattle.log_replay.proofs.FoundLemmas.{lines_few}
use Rattle.log_replay.proofs.MadeLemmas.{accepted_log}
use Rattle.log_replay.proofs.ReplayLemmas.{arrivals_few}
use Rattle.log_replay.proofs.check.check_log.Goals as goal

pub arrival_count-arrivals-requires : goal.arrival_count-arrivals-requires
arrival_count-arrivals-requires g c =
    let log = c.in-Ok.ensures.answer.log in
    let few = lines_few c.args.plan.now c.in-Ok.replayed.run c.requires.typed log.fits in
    omega (arith, few, ap length log.text, arrivals_few c.in-Ok.replayed.run.actors)

pub returns-in-Ok-None : goal.returns-in-Ok-None
returns-in-Ok-None g c = record {
  answer =
      accepted_log c.args.plan.now c.args.bytes.now c.in-Ok.replayed.run c.in-Ok-None.field-0 c.arrival_count-arrivals.result c.requires.typed c.in-Ok.ensures.answer.log c.in-Ok.ensures.answer.texts c.in-Ok-None.field-0-is c.in-Ok-None.ensures.first
      c.arrival_count-arrivals.ensures;
}
