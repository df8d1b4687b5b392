-- The names of a plan: each is a name, and among the actors, the kinds and the fields of a kind no two are one.
use Rattle.std.specs.Prelude.{◌≡◌, ℕ, true, false, List, [], ◌∷◌, Option, None, Some, map, slice_get}
use Rattle.std.specs.List.{AllByRecursion}
use Rattle.std.specs.Str.{bytes_eq}
use Rattle.join_base.specs.Text.{is_name}
use Rattle.join_base.specs.declared.message.Sort.{Sort}
use Rattle.script_types.specs.declared.plan.Kind.{Kind}
use Rattle.script_types.specs.declared.plan.ActorPlan.{ActorPlan}
use Rattle.script_types.specs.declared.plan.Plan.{Plan}

-- no two of the names are one
abbrev pub AreApart : List (List ℕ) → Type 0
AreApart [] = Unit {0}
AreApart (name ∷ names) = AllByRecursion (λ other. bytes_eq name other ≡ false) names × AreApart names

abbrev pub AreNames : List (List ℕ) → Type 0
AreNames names = AllByRecursion (λ name. is_name name ≡ true) names

pub record AreOwnNames (names : List (List ℕ)) : Type 0 where
  pub each : AreNames names
  pub apart : AreApart names

abbrev pub field_names : Kind → List (List ℕ)
field_names kind = map (λ (field : List ℕ × Sort). field.0) kind.fields

abbrev pub kind_names : List Kind → List (List ℕ)
kind_names kinds = map (λ (kind : Kind). kind.name) kinds

abbrev pub actor_names : List ActorPlan → List (List ℕ)
actor_names actors = map (λ (actor : ActorPlan). actor.name) actors

-- the names of the kinds, of their fields and of the actors are names, though two of them may be one
pub record HasNames (plan : Plan) : Type 0 where
  pub kinds : AreNames (kind_names plan.kinds)
  pub fields : AllByRecursion (λ (kind : Kind). AreNames (field_names kind)) plan.kinds
  pub actors : AreNames (actor_names plan.actors)

-- the name of the kind, or of the actor, of a number; it is empty where the plan has none, which no checked plan needs
abbrev pub kind_name : Option Kind → List ℕ
kind_name None = []
kind_name (Some kind) = kind.name

abbrev pub actor_name : Option ActorPlan → List ℕ
actor_name None = []
actor_name (Some actor) = actor.name

abbrev pub name_of_kind : Plan → ℕ → List ℕ
name_of_kind plan kind = kind_name (slice_get plan.kinds kind)

abbrev pub name_of_actor : Plan → ℕ → List ℕ
name_of_actor plan actor = actor_name (slice_get plan.actors actor)
