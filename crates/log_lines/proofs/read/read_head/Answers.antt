use Rattle.log_lines.proofs.ExactLemmas.{head_none, head_ok}
use Rattle.log_lines.proofs.read.read_head.Goals as goal

pub returns-clause-found : goal.returns-clause-found
returns-clause-found c = head_ok c.args.plan.now c.args.text.now c.first_line.result c.first_line.ensures

pub returns-clause-none : goal.returns-clause-none
returns-clause-none c = head_none c.args.plan.now c.args.text.now c.first_line.result c.first_line.ensures
