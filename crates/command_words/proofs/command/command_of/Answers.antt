use Rattle.command_words.proofs.RangeLemmas.{requests_in_range}
use Rattle.command_words.proofs.command.command_of.Goals as goal

pub returns-clause-in_range : goal.returns-clause-in_range
returns-clause-in_range c = requests_in_range c.args.verbs.now c.args.settings.now c.args.words.now c.request_of.result c.request_of.ensures.command
