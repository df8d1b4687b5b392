use Rattle.std.proofs.Common.{◌∙◌, ap}
use Rattle.feed_answers.specs.Queues.{replies_of, seen}
use Rattle.feed_answers.proofs.QueueLemmas.{twins_at}
use Rattle.feed_answers.proofs.queues.queues_of.Goals as goal

pub answers_in-requires-clause-replies : goal.answers_in-requires-clause-replies
answers_in-requires-clause-replies c =
    ap seen c.as_slice.ensures.value
    ∙ twins_at (λ own. seen own.items) (λ own. replies_of own.entries) c.args.replies.now c.args.runs.now c.loop-place.place c.index-replies-place.result c.index-runs-place.result c.requires.replies c.loop-place-test.true c.index-replies-place.is c.index-runs-place.is
