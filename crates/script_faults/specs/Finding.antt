-- The fault that is found of a script by its outline and its tokens.
use Rattle.std.specs.Prelude.{◌≡◌, ℕ, List, [], ◌++◌, Option, Result, Ok, Err}
use mathlib.Core.Logic.{inl, inr}
use Rattle.std.specs.List.{flat_map}
use Rattle.script_tokens.specs.declared.token.Token.{Token}
use Rattle.script_grammar.specs.Grammar.{Declaration}
use Rattle.script_grammar.specs.declared.outline.Outline.{Outline}
use Rattle.script_grammar.specs.declared.stop.Stop.{Stop}
use Rattle.script_grammar.specs.declared.stop.Stop.TheVariants.{NoMemory, Refused}
use Rattle.script_grammar.specs.declared.tree.MessageDecl.{MessageDecl}
use Rattle.script_grammar.specs.declared.tree.Spelt.{Spelt}
use Rattle.script_grammar.specs.declared.tree.Tree.{Tree}
use Rattle.script_names.specs.Scope.{message_rows, spelt_rows}
use Rattle.script_faults.specs.declared.first.Fault.{Fault}
use Rattle.script_faults.specs.declared.script.Declarations.{Declarations}
use Rattle.script_faults.specs.First.{first_of, too_many}
use Rattle.script_faults.specs.Faults.{actor_faults, first_fault, message_faults, own_place, twice_declared}

-- it is that of the tree that reading gives; tokens that reading refuses are not asked for
abbrev pub Finds : Result Tree (List Token) → Result (Option Fault) Stop → Type 0
Finds read (Err NoMemory) = Unit {0}
Finds read (Err Refused) = ⊥
Finds (Ok tree) (Ok found) = found ≡ first_fault tree
Finds (Err rest) (Ok found) = ⊥

-- ---- what private functions compute

-- the faults of messages, and of the names of actors
abbrev pub outline_faults : Outline → List Fault
outline_faults outline =
    too_many 64 (λ (m : MessageDecl). m.name.place) outline.messages ++ twice_declared own_place (message_rows outline.messages) ++ flat_map message_faults outline.messages
    ++ too_many 32 (λ (s : Spelt). s.place) outline.actors ++ twice_declared own_place (spelt_rows outline.actors)

-- the faults of actors' definitions
abbrev pub declaration_faults : List MessageDecl → List (List ℕ × ℕ) → Declaration → List Fault
declaration_faults messages actors (inl message) = []
declaration_faults messages actors (inr actor) = actor_faults messages actors actor

abbrev pub declaration_after : Declarations → Declaration → Declarations
declaration_after s d = record {
  messages = s.messages;
  actors = s.actors;
  found = first_of s.found (declaration_faults s.messages.now.decls.now s.actors.now d);
}
