use Rattle.script_grammar.proofs.FilledLemmas.{scripts_are_filled}
use Rattle.script_grammar.proofs.outline.filled_law.Goals as goal

pub returns : goal.returns
returns c = scripts_are_filled
