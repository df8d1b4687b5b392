-- What a visitor takes of a plan, definition by definition, and a plan without its definitions.
use Rattle.std.specs.Prelude.{◌≡◌, ℕ, fold, List, [], map, Result, Ok, Err}
use mathlib.Core.Logic.{inl, inr}
use Rattle.script_tokens.specs.declared.token.Token.{Token}
use Rattle.script_grammar.specs.Grammar.{Declaration}
use Rattle.script_grammar.specs.declared.outline.Outline.{Outline}
use Rattle.script_grammar.specs.declared.stop.Stop.{Stop}
use Rattle.script_grammar.specs.declared.stop.Stop.TheVariants.{NoMemory, Refused}
use Rattle.script_grammar.specs.declared.tree.RuleDecl.{RuleDecl}
use Rattle.script_grammar.specs.declared.tree.Spelt.{Spelt}
use Rattle.script_grammar.specs.declared.tree.Tree.{Tree}
use Rattle.script_types.specs.declared.plan.Rule.{Rule}
use Rattle.script_types.specs.declared.plan.ActorPlan.{ActorPlan}
use Rattle.script_types.specs.declared.plan.Plan.{Plan}
use Rattle.script_plan.specs.PlanOf.{actor_of, kind_of, plan_of, rule_of}

-- with an actor: its name, its definitions, and their end
abbrev pub actor_taken : {K : Type 0} → (K → List ℕ → K) → (K → Rule → K) → (K → List ℕ → K) → K → ActorPlan → K
actor_taken with_actor with_rule with_end taken actor = with_end (fold with_rule (with_actor taken actor.name) actor.rules) actor.name

abbrev pub actors_taken : {K : Type 0} → (K → List ℕ → K) → (K → Rule → K) → (K → List ℕ → K) → K → List ActorPlan → K
actors_taken with_actor with_rule with_end taken actors = fold (actor_taken with_actor with_rule with_end) taken actors

-- what a visitor took of the tree that reading gives, unless there was no memory
abbrev pub Visits : {K : Type 0} → (K → List ℕ → K) → (K → Rule → K) → (K → List ℕ → K) → K → K → Result Tree (List Token) → Result (Unit {0}) Stop → Type 0
Visits with_actor with_rule with_end before now read (Err NoMemory) = Unit {0}
Visits with_actor with_rule with_end before now read (Err Refused) = ⊥
Visits with_actor with_rule with_end before now (Ok tree) (Ok u) = now ≡ actors_taken with_actor with_rule with_end before (plan_of tree).actors
Visits with_actor with_rule with_end before now (Err rest) (Ok u) = ⊥

-- ---- a plan without its definitions

abbrev pub name_alone : ActorPlan → ActorPlan
name_alone actor = record { name = actor.name; rules = [] }

-- a plan's kinds and the names of its actors
abbrev pub without_rules : Plan → Plan
without_rules plan = record { kinds = plan.kinds; actors = map name_alone plan.actors }

abbrev pub head_of : Spelt → ActorPlan
head_of spelt = record { name = spelt.name; rules = [] }

abbrev pub heads_of : Outline → Plan
heads_of outline = record { kinds = map kind_of outline.messages; actors = map head_of outline.actors }

-- ---- what private functions compute

-- with the plan of a definition, and of a declaration; a message has none
abbrev pub rule_taken : {K : Type 0} → (K → Rule → K) → Tree → K → RuleDecl → K
rule_taken with_rule tree taken rule = with_rule taken (rule_of tree rule)

abbrev pub declaration_taken : {K : Type 0} → (K → List ℕ → K) → (K → Rule → K) → (K → List ℕ → K) → Tree → K → Declaration → K
declaration_taken with_actor with_rule with_end tree taken (inl message) = taken
declaration_taken with_actor with_rule with_end tree taken (inr actor) = actor_taken with_actor with_rule with_end taken (actor_of tree actor)
