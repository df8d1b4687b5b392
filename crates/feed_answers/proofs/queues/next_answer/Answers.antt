use Rattle.std.proofs.Common.{◌∙◌, drop, slice_set, sym, ap}
use Rattle.feed_answers.specs.Queues.{front}
use Rattle.feed_answers.proofs.QueueLemmas.{front_there, taken_there, front_past, taken_past}
use Rattle.feed_answers.proofs.queues.next_answer.Goals as goal

pub returns-then-place-queues : goal.returns-then-place-queues
returns-then-place-queues c = record {
  answer = c.take.ensures.first ∙ ap front (sym c.index-queues-place.is) ∙ sym (front_there c.args.queues.now c.args.actor c.index-queues-place.result c.if-place-queues.true c.index-queues-place.is);
  rest = ap (slice_set c.args.queues.now c.args.actor) (c.take.ensures.rest ∙ ap (drop 1) (sym c.index-queues-place.is)) ∙ sym (taken_there c.args.queues.now c.args.actor c.index-queues-place.result c.if-place-queues.true c.index-queues-place.is);
}

pub returns-else-place-queues : goal.returns-else-place-queues
returns-else-place-queues c = record {
  answer = sym (front_past c.args.queues.now c.args.actor c.if-place-queues.false);
  rest = sym (taken_past c.args.queues.now c.args.actor c.if-place-queues.false);
}
