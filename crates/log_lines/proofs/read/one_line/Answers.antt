use Rattle.log_lines.proofs.ExactLemmas.{texts_are_one_line}
use Rattle.log_lines.proofs.read.one_line.Goals as goal

pub returns : goal.returns
returns c = texts_are_one_line
