use Rattle.std.proofs.Common.{refl, sym}
use Rattle.feed_answers.specs.Queues.{seen}
use Rattle.feed_answers.proofs.ReplyLemmas.{replies_nothing}
use Rattle.feed_answers.proofs.replies.note_effect.Goals as goal

pub returns-in-Print : goal.returns-in-Print
returns-in-Print c = rw c.in-Print.is (sym (replies_nothing _ (λ n. refl) 1 (seen c.args.replies.now)))

pub returns-in-Post : goal.returns-in-Post
returns-in-Post c = rw c.in-Post.is (sym (replies_nothing _ (λ n. refl) 1 (seen c.args.replies.now)))
