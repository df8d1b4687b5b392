use Rattle.std.proofs.Common.{◌≡◌, List, length, ap, sym, ◌∙◌, arith, rules}
use Rattle.std.proofs.lemmas.Result.{IfOk-weaker}
use Rattle.script_grammar.specs.declared.tree.LeafDecl.{LeafDecl}
use Rattle.script_grammar.specs.Operands.{Sum}
use Rattle.script_grammar.proofs.OperandLemmas.{only_last}
use Rattle.script_grammar.proofs.operand.form_of.Goals as goal

pub returns-in-None : goal.returns-in-None
returns-in-None c =
    let one : length c.args.leaves ≡ 1 = search rules in
    absurd (omega (arith, one, ap (λ (l : List LeafDecl). length l) c.in-None.ensures.last.0))

pub returns-in-Some : goal.returns-in-Some
returns-in-Some c =
    let one : length c.args.leaves ≡ 1 = search rules in
    let only = only_last c.args.leaves c.pop.new.self c.in-Some.leaf one c.in-Some.ensures.last in
    IfOk-weaker c.form_of_one.result _ _ (λ form is. is ∙ ap (λ (leaves : List LeafDecl). Sum c.args.place leaves) (sym only)) c.form_of_one.ensures
