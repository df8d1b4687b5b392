use Rattle.std.proofs.Common.{arith}
use Rattle.std.proofs.lemmas.Option.{slice_get-get_or}
use Rattle.ask_run.proofs.ToldLemmas.{right_at}
use Rattle.ask_run.proofs.telling.put_one.Goals as goal

pub put-requires : goal.put-requires
put-requires c =
    let right = c.requires.right c.args.ask c.value_of-value.result.now c.requires.listed c.value_of-value.ensures.value in
    record {
      there = right_at c.args.queues.now c.args.feed c.args.ask c.value_of-value.result.now _ right (omega (arith, c.if-ask-feed.false))
          (slice_get-get_or c.args.queues.now c.args.ask.actor c.index-queues-actor.result (omega (arith, c.if-queues-actor.false)));
    }
