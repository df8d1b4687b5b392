use Rattle.std.proofs.Common.{ap, ◌∙◌}
use Rattle.script_grammar.specs.Operands.{operand_place}
use Rattle.script_grammar.proofs.operand.OperandDecl.start.Goals as goal

pub returns : goal.returns
returns c = c.form_place.ensures ∙ ap operand_place c.self.view_is
