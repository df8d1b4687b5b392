use Rattle.std.proofs.Common.{Some}
use Rattle.feed_answers.proofs.QueueLemmas.{put_same}
use Rattle.feed_answers.proofs.queues.Queue.put.Goals as goal

pub returns : goal.returns
returns c = record { same = put_same c.self.inside.answers.items c.self.inside.next c.args.place c.args.self.now c.self.view_is (Some c.args.answer) c.requires.there }
