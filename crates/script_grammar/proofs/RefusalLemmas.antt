-- A refusal before the end of the tokens.
use Rattle.std.proofs.Common.{◌≡◌, [], ◌∷◌, ◌++◌, refl, sym, ap, subst, ◌∙◌, append_assoc}
use Rattle.script_tokens.specs.declared.token.Token.{Token}
use Rattle.script_grammar.specs.Phrases.{IsViable}
use Rattle.script_grammar.specs.Grammar.{Tokens, IsScript}
use Rattle.script_grammar.specs.Refusal.{RefusalStays}

pub refusal_stays : RefusalStays
refusal_stays tokens rest more t h =
    let parts : tokens ++ more ≡ h.read ++ (t ∷ rest ++ more) = ap (λ (l : Tokens). l ++ more) h.parts ∙ append_assoc h.read (t ∷ rest) more in
    let whole : tokens ++ more ≡ (h.read ++ t ∷ []) ++ (rest ++ more) = parts ∙ sym (append_assoc h.read (t ∷ []) (rest ++ more)) in
    record {
      read = h.read;
      parts = parts;
      viable = h.viable;
      no_script = λ tree script. h.first t rest refl (tree, rest ++ more, subst (λ (l : Tokens). IsScript tree l) whole script);
      first = λ u after e viable. h.first t rest refl (subst (λ (x : Token). IsViable IsScript (h.read ++ x ∷ [])) (first_of u t after (rest ++ more) (sym e)) viable);
    }
  where
    first_of : (u t : Token) (us ts : Tokens) → u ∷ us ≡ t ∷ ts → u ≡ t
    first_of u t us ts e = cc
