use Rattle.answer_law.proofs.ReplyLemmas.{answers_agree, readers_agree}
use Rattle.answer_law.proofs.law.agree_law.Goals as goal

pub returns : goal.returns
returns c = record { histories = answers_agree; runs = readers_agree }
