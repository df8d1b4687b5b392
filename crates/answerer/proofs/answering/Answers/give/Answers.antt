use Rattle.answerer.proofs.AnsweredLemmas.{push_tried}
use Rattle.answerer.proofs.answering.Answers.give.Goals as goal

pub returns-in-Ok-clause-tried : goal.returns-in-Ok-clause-tried
returns-in-Ok-clause-tried c =
    push_tried (record { board = c.args.self.now.board; view = c.answer.new.view; asks = c.push.new.self }) c.args.self.now.asks c.args.ask c.args.value c.push.result c.push.ensures.ok
