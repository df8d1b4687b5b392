-- The plan that reading a script without faults gives: each definition is planned where it stands, and nothing of its
-- tree stays.
use Rattle.std.specs.Prelude.{◌≡◌, List, [], map, Result, Ok, Err}
use mathlib.Core.Logic.{inl, inr}
use Rattle.script_tokens.specs.declared.token.Token.{Token}
use Rattle.script_grammar.specs.declared.outline.Outline.{Outline}
use Rattle.script_grammar.specs.declared.stop.Stop.{Stop}
use Rattle.script_grammar.specs.declared.stop.Stop.TheVariants.{NoMemory, Refused}
use Rattle.script_grammar.specs.declared.tree.Spelt.{Spelt}
use Rattle.script_grammar.specs.declared.tree.ActorDecl.{ActorDecl}
use Rattle.script_grammar.specs.declared.tree.Tree.{Tree}
use Rattle.script_grammar.specs.Grammar.{Declaration}
use Rattle.script_grammar.specs.Reading.{Outcome}
use Rattle.script_types.specs.declared.plan.Plan.{Plan}
use Rattle.script_plan.specs.PlanOf.{plan_of}
use Rattle.script_plan.specs.Small.{IsSmall, IsSmallActor}

-- ---- what the plan of a definition asks of the script

abbrev pub actor_alone : Spelt → ActorDecl
actor_alone name = record { name = name; rules = [] }

-- the messages and the actors' names of an outline, without a definition
abbrev pub outline_tree : Outline → Tree
outline_tree outline = record { messages = outline.messages; actors = map actor_alone outline.actors }

-- ---- what is small of what is read

-- reading gives a value of which P holds
abbrev pub ReadsSome : {X : Type 0} → (X → Type 0) → Outcome Token X → Type 0
ReadsSome P (Ok p) = P p.0
ReadsSome P (Err rest) = ⊥

abbrev pub IsSmallDeclaration : Declaration → Type 0
IsSmallDeclaration (inl message) = Unit {0}
IsSmallDeclaration (inr actor) = IsSmallActor actor

-- the tree that reading gives is small
abbrev pub AllSmall : Result Tree (List Token) → Type 0
AllSmall (Ok tree) = IsSmall tree
AllSmall (Err rest) = ⊥

-- ---- the answer

abbrev pub IsPlanOf : Plan → Result Tree (List Token) → Type 0
IsPlanOf plan (Ok tree) = plan ≡ plan_of tree
IsPlanOf plan (Err rest) = ⊥

-- the plan of the tree that reading gives, unless there was no memory
abbrev pub Plans : Result Tree (List Token) → Result Plan Stop → Type 0
Plans read (Ok plan) = IsPlanOf plan read
Plans read (Err NoMemory) = Unit {0}
Plans read (Err Refused) = ⊥
