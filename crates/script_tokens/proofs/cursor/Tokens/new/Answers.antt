use Rattle.std.proofs.Common.{List, length, subst, sym, arith}
use Rattle.script_tokens.specs.Tokens.{AreTokens}
use Rattle.script_tokens.specs.declared.token.Token.{Token}
use Rattle.script_tokens.proofs.CursorLemmas.{are_tokens}
use Rattle.script_tokens.proofs.cursor.Tokens.new.Goals as goal

pub returns : goal.returns
returns c =
    subst (λ (ts : List Token). AreTokens (length c.args.text.now) c.args.text.now ts) (sym c.in_ok-next.ensures.tokens)
    (are_tokens (length c.args.text.now) c.args.text.now (omega arith))
