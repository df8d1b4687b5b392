use Rattle.std.proofs.Common.{◌∙◌}
use Rattle.script_grammar.proofs.operand.OperandDecl.seen.Goals as goal

pub returns : goal.returns
returns c = c.form_seen.ensures ∙ c.self.view_is
