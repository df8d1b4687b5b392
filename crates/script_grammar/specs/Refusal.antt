-- Where a list of tokens is refused.
use Rattle.std.specs.Prelude.{◌≡◌, [], ◌∷◌, ◌++◌, Result, Ok, Err}
use Rattle.script_grammar.specs.declared.stop.Stop.{Stop}
use Rattle.script_grammar.specs.declared.stop.Stop.TheVariants.{NoMemory, Refused}
use Rattle.script_tokens.specs.declared.token.Token.{Token}
use Rattle.script_grammar.specs.declared.tree.Tree.{Tree}
use Rattle.script_grammar.specs.declared.outline.Outline.{Outline}
use Rattle.script_grammar.specs.Phrases.{IsViable}
use Rattle.script_grammar.specs.Grammar.{Tokens, IsScript}
use Rattle.script_grammar.specs.Outlines.{outline_of}

-- The tokens are no script. `rest` begins at the first token at which no continuation is a script, and is
-- empty where the tokens end too early.
pub record Refuses (tokens rest : Tokens) : Type 0 where
  pub read : Tokens
  pub parts : tokens ≡ read ++ rest
  pub viable : IsViable IsScript read
  pub no_script : (tree : Tree) → IsScript tree tokens → ⊥
  pub first : (t : Token) (more : Tokens) → rest ≡ t ∷ more → IsViable IsScript (read ++ t ∷ []) → ⊥

-- tokens are one script at the most
abbrev pub OneTree : Type 0
OneTree = (tokens : Tokens) (tree other : Tree) → IsScript tree tokens → IsScript other tokens → tree ≡ other

-- and are refused at one place at the most
abbrev pub OneRefusal : Type 0
OneRefusal = (tokens rest other : Tokens) → Refuses tokens rest → Refuses tokens other → rest ≡ other

-- what is refused before its end is refused at the same token where more tokens follow
abbrev pub RefusalStays : Type 0
RefusalStays = (tokens rest more : Tokens) (t : Token) → Refuses tokens (t ∷ rest) → Refuses (tokens ++ more) (t ∷ rest ++ more)

-- where the tokens are refused, this rest is left, unless there was no memory
abbrev pub IsStop : Tokens → Tokens → Stop → Type 0
IsStop tokens rest NoMemory = Unit {0}
IsStop tokens rest Refused = Refuses tokens rest

-- the tokens are a script, and this is its outline
pub record IsRead (outline : Outline) (tokens : Tokens) : Type 0 where
  pub tree : Tree
  pub script : IsScript tree tokens
  pub outline_is : outline ≡ outline_of tree

-- the outline of the tokens, or where they are refused
abbrev pub Answers : Tokens → Tokens → Result Outline Stop → Type 0
Answers tokens rest (Ok outline) = IsRead outline tokens
Answers tokens rest (Err stop) = IsStop tokens rest stop
