use Rattle.feed_answers.proofs.QueueLemmas.{taken_first, taken_rest}
use Rattle.feed_answers.proofs.queues.Queue.take.Goals as goal

pub returns-in-Some-clause-first : goal.returns-in-Some-clause-first
returns-in-Some-clause-first c = taken_first c.self.inside.answers.items c.self.inside.next c.in-Some.answer.now c.args.self.now c.self.view_is (rw (← c.deref.ensures.value) c.in-Some.ensures.lookup.3.0) (rw c.deref.ensures.value at c.in-Some.ensures.lookup.1)

pub returns-in-Some-clause-rest : goal.returns-in-Some-clause-rest
returns-in-Some-clause-rest c = taken_rest c.self.inside.answers.items c.self.inside.next c.in-Some.answer.now c.args.self.now c.self.view_is (rw (← c.deref.ensures.value) c.in-Some.ensures.lookup.3.0) (rw c.deref.ensures.value at c.in-Some.ensures.lookup.1)
