use Rattle.std.proofs.Common.{ap, sym, subst, ◌∙◌}
use Rattle.std.proofs.lemmas.Result.{IfOk-weaker}
use Rattle.script_grammar.specs.declared.operand.OperandDecl.{OperandDecl}
use Rattle.script_plan.specs.PlanOf.{operand_of}
use Rattle.script_plan.specs.Small.{IsSmallOperand}
use Rattle.script_plan.proofs.term.operand_of.Goals as goal

pub operand_seen-requires : goal.operand_seen-requires
operand_seen-requires c = let Small : OperandDecl → Type 0 = λ (o : OperandDecl). IsSmallOperand o in subst Small (sym c.seen.ensures) c.requires

pub returns : goal.returns
returns c = IfOk-weaker c.operand_seen.result _ _ (λ o is. is ∙ ap (operand_of c.args.variables.now) c.seen.ensures) c.operand_seen.ensures
