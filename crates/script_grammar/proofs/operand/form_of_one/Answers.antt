use Rattle.std.proofs.Common.{[], ◌∷◌, List, ap, sym, ◌∙◌, rules}
use Rattle.std.specs.Prelude.{◌≡◌}
use Rattle.std.proofs.lemmas.Result.{IfOk-weaker}
use Rattle.script_grammar.specs.declared.tree.LeafDecl.{LeafDecl}
use Rattle.script_grammar.specs.Operands.{Sum}
use Rattle.script_grammar.proofs.OperandLemmas.{plain_is}
use Rattle.script_grammar.proofs.operand.form_of_one.Goals as goal

pub returns-then-is_plain : goal.returns-then-is_plain
returns-then-is_plain c =
    c.plain_form.ensures ∙ ap (λ (leaf : LeafDecl). Sum c.args.place (leaf ∷ [])) (plain_is c.args.leaf c.args.place (sym c.is_plain.ensures ∙ c.if-is_plain.true))

pub returns : goal.returns
returns c =
    let only : c.push.new.self ≡ c.args.leaf ∷ [] = search rules in
    IfOk-weaker c.listed_form.result _ _ (λ form is. is ∙ ap (λ (leaves : List LeafDecl). Sum c.args.place leaves) only) c.listed_form.ensures
