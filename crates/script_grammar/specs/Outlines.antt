-- The outline of a script: its messages, and the names of its actors.
use Rattle.std.specs.Prelude.{◌≡◌, List, map, Result, Ok, Err}
use Rattle.script_tokens.specs.declared.token.Token.{Token}
use Rattle.script_grammar.specs.declared.outline.Outline.{Outline}
use Rattle.script_grammar.specs.declared.tree.Spelt.{Spelt}
use Rattle.script_grammar.specs.declared.tree.ActorDecl.{ActorDecl}
use Rattle.script_grammar.specs.declared.tree.Tree.{Tree}
use Rattle.script_grammar.specs.Reading.{Outcome, and_then, pure}

abbrev pub actor_name : ActorDecl → Spelt
actor_name a = a.name

abbrev pub outline_of : Tree → Outline
outline_of tree = record { messages = tree.messages; actors = map actor_name tree.actors }

-- the outline is that of the tree that reading gives
abbrev pub Outlines : Outline → Result Tree (List Token) → Type 0
Outlines outline (Ok tree) = outline ≡ outline_of tree
Outlines outline (Err rest) = ⊥

-- the name of the actor that reading gives
abbrev pub named : Outcome Token ActorDecl → Outcome Token Spelt
named read = and_then read (λ a. pure (actor_name a))
