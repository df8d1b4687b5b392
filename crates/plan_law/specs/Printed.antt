-- What the text of a plan spells: the tree of its script, but for places.
use Rattle.std.specs.Prelude.{◌≡◌, ℕ, List, length, map}
use Rattle.std.specs.Str.{IsUtf8}
use Rattle.script_tokens.specs.declared.token.Kind.{Kind}
use Rattle.script_tokens.specs.declared.token.Token.{Token}
use Rattle.script_tokens.specs.Tokens.{AreTokens}
use Rattle.script_grammar.specs.declared.tree.Tree.{Tree}
use Rattle.script_grammar.specs.Grammar.{IsScript}
use Rattle.script_reader.specs.Spells.{Spells}
use Rattle.script_types.specs.declared.plan.Plan.{Plan}
use Rattle.script_check.specs.Types.{Types}
use Rattle.place_law.specs.Law.{kind_of}
use Rattle.plan_text.specs.PlanText.{plan_text}

-- tokens without their places
abbrev pub kinds : List Token → List Kind
kinds tokens = map kind_of tokens

-- the text cut into its longest tokens, which but for their places are tokens derived by the grammar
pub record SpellsButForPlaces (bytes : List ℕ) (tree : Tree) : Type 0 where
  pub text : IsUtf8 bytes
  pub tokens : List Token
  pub cut : AreTokens (length bytes) bytes tokens
  pub placed : List Token
  pub script : IsScript tree placed
  pub same : kinds tokens ≡ kinds placed

-- the text of the plan of a script spells the tree of that script, but for places
abbrev pub PlansSpellTheirTree : Type 0
PlansSpellTheirTree = (bytes : List ℕ) (tree : Tree) (plan : Plan) → Spells bytes tree → Types tree plan → SpellsButForPlaces (plan_text plan) tree

-- the text of the plan of a script reads and checks to that plan
abbrev pub PlansReadBack : Type 0
PlansReadBack = (bytes : List ℕ) (tree : Tree) (plan : Plan) → Spells bytes tree → Types tree plan → (other : Tree) × (Spells (plan_text plan) other × Types other plan)
