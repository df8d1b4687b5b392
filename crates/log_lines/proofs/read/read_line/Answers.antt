use Rattle.log_lines.proofs.ExactLemmas.{line_none, line_ok}
use Rattle.log_lines.proofs.read.read_line.Goals as goal

pub returns-clause-found : goal.returns-clause-found
returns-clause-found c = line_ok c.args.plan.now c.args.head.now c.args.text.now c.requires.typed c.requires.head c.line_of.result c.line_of.ensures

pub returns-clause-none : goal.returns-clause-none
returns-clause-none c = line_none c.args.plan.now c.args.head.now c.args.text.now c.requires.typed c.requires.head c.line_of.result c.line_of.ensures
