-- The declarations at the beginning of a script's tokens.
use Rattle.std.specs.Prelude.{◌≡◌, List, [], ◌∷◌, ◌++◌, Result, Ok, Err}
use mathlib.Core.Logic.{inl, inr}
use Rattle.script_tokens.specs.declared.token.Token.{Token}
use Rattle.script_grammar.specs.Phrases.{each}
use Rattle.script_grammar.specs.Reading.{Outcome}
use Rattle.script_grammar.specs.Grammar.{Tokens, Declaration, declaration, tree_of}
use Rattle.script_grammar.specs.Outlines.{actor_name, outline_of}
use Rattle.script_grammar.specs.declared.outline.Outline.{Outline}
use Rattle.script_grammar.specs.declared.stop.Stop.{Stop}
use Rattle.script_grammar.specs.declared.stop.Stop.TheVariants.{NoMemory, Refused}

-- the tokens are those of declarations with this outline, and then the rest
pub record Begins (outline : Outline) (tokens rest : Tokens) : Type 0 where
  pub declarations : List Declaration
  pub read : Tokens
  pub parts : tokens ≡ read ++ rest
  pub spelt : each declaration declarations read
  pub outline_is : outline ≡ outline_of (tree_of declarations)

-- ---- what private functions compute

abbrev pub add : Declaration → Outline → Outline
add (inl d) outline = record { messages = outline.messages ++ d ∷ []; actors = outline.actors }
add (inr a) outline = record { messages = outline.messages; actors = outline.actors ++ actor_name a ∷ [] }

-- the outline has one declaration more, unless it is refused; this rest is left
abbrev pub Declares : Outline → Outline → Outcome Token Declaration → Tokens → Result (Unit {0}) Stop → Type 0
Declares before after read rest (Ok done) = (d : Declaration) × (read ≡ Ok (d, rest)) × (after ≡ add d before)
Declares before after read rest (Err NoMemory) = Unit {0}
Declares before after read rest (Err Refused) = (read ≡ Err rest) × (after ≡ before)
