use Rattle.std.proofs.Common.{List, ℕ, ap, sym, subst, ◌∙◌}
use Rattle.std.proofs.lemmas.Result.{IfOk-weaker}
use Rattle.guard_eval.specs.declared.term.Operand.TheVariants as operand
use Rattle.guard_eval.specs.declared.term.WordsLeaf.TheVariants as words
use Rattle.script_grammar.specs.declared.operand.OperandRef.{OperandRef}
use Rattle.script_grammar.specs.OperandViews.{operand_seen}
use Rattle.script_plan.specs.PlanOf.{name_operand, operand_of, sum_operand}
use Rattle.script_plan.specs.Small.{IsSmallOperand}
use Rattle.script_plan.proofs.term.operand_seen.Goals as goal

pub sum_operand-requires : goal.sum_operand-requires
sum_operand-requires c = let Small : OperandRef → Type 0 = λ (seen : OperandRef). IsSmallOperand (operand_seen seen) in subst Small c.in-Sum.is c.requires

pub returns-in_ok-copy-in-Fixed : goal.returns-in_ok-copy-in-Fixed
returns-in_ok-copy-in-Fixed c =
    ap (λ (t : List ℕ). operand.Words (words.Fixed t)) c.in_ok-copy-in-Fixed.ensures.equal
    ∙ ap (λ (seen : OperandRef). operand_of c.args.variables.now (operand_seen seen)) (sym c.in-Fixed.is)

pub returns-in-Named : goal.returns-in-Named
returns-in-Named c =
    IfOk-weaker c.name_operand.result _ _
    (λ o is. is
    ∙ ap (name_operand c.args.variables.now) c.bytes.ensures.same
    ∙ ap (λ (seen : OperandRef). operand_of c.args.variables.now (operand_seen seen)) (sym c.in-Named.is))
    c.name_operand.ensures

pub returns-in-Sum : goal.returns-in-Sum
returns-in-Sum c =
    IfOk-weaker c.sum_operand.result _ _
    (λ o is. is
    ∙ ap (sum_operand c.args.variables.now c.in-Sum.leaves.now) c.only_name.ensures
    ∙ ap (λ (seen : OperandRef). operand_of c.args.variables.now (operand_seen seen)) (sym c.in-Sum.is))
    c.sum_operand.ensures
