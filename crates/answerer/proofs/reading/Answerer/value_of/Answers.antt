use Rattle.answerer.proofs.TellLemmas.{has_known}
use Rattle.answerer.proofs.reading.Answerer.value_of.Goals as goal

pub look-requires-clause-exists : goal.look-requires-clause-exists
look-requires-clause-exists c = has_known c.args.self.now.answers.board.now c.args.self.now.answers.view c.args.ask c.requires.of_board c.requires.known
