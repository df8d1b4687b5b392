use Rattle.script_tokens.proofs.ListLemmas.{some_list, one_list}
use Rattle.script_tokens.proofs.lexer.one_list.Goals as goal

pub returns-clause-some : goal.returns-clause-some
returns-clause-some c = some_list c.quoted_or_none.ensures

pub returns-clause-one : goal.returns-clause-one
returns-clause-one c = one_list c.quoted_law.ensures
