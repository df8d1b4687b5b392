-- The places of a script's tokens do not matter to its plan.
use Rattle.std.specs.Prelude.{◌≡◌, map}
use Rattle.script_tokens.specs.declared.token.Token.{Token}
use Rattle.script_tokens.specs.declared.token.Kind.{Kind}
use Rattle.script_grammar.specs.Grammar.{Tokens, IsScript}
use Rattle.script_grammar.specs.declared.tree.Tree.{Tree}
use Rattle.script_types.specs.declared.plan.Plan.{Plan}
use Rattle.script_check.specs.Types.{Types}

-- what a token is, wherever it stands
abbrev pub kind_of : Token → Kind
kind_of token = token.kind

-- the tokens of a script, moved to other places, are those of a script that has the same plan
abbrev pub PlacesDoNotMatter : Type 0
PlacesDoNotMatter = (tree : Tree) (plan : Plan) (tokens moved : Tokens) → IsScript tree tokens → Types tree plan → map kind_of moved ≡ map kind_of tokens
    → (other : Tree) × (IsScript other moved × Types other plan)
