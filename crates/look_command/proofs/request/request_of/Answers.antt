use Rattle.look_command.proofs.RequestLemmas.{requests_few}
use Rattle.look_command.proofs.request.request_of.Goals as goal

pub returns-clause-few : goal.returns-clause-few
returns-clause-few c = requests_few c.args.words.now c.parsed.result c.parsed.ensures.request
