use Rattle.answer_law.proofs.ReplyLemmas.{replies_are_one, replies_stay, runs_answer}
use Rattle.answer_law.proofs.law.reply_law.Goals as goal

pub returns : goal.returns
returns c = record { stay = replies_stay; runs = runs_answer; one = replies_are_one }
