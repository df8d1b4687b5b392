-- The targets of the bodies of actors, and opening cells.
use Rattle.std.specs.Prelude.{◌≡◌, ℕ, ◌<◌, List, [], ◌∷◌, true, All, length, map, slice_index_or, Contains}
use Rattle.script_types.specs.declared.plan.Plan.{Plan}
use Rattle.script_types.specs.declared.plan.ActorPlan.{ActorPlan}
use Rattle.script_types.specs.declared.plan.Rule.{Rule}
use Rattle.fair_semantics.specs.declared.run.Limits.{Limits}
use Rattle.fair_semantics.specs.Linked.{numbers_from}
use Rattle.actor_turn.specs.Held.{Held, new_actor}
use Rattle.actor_cells.specs.Lawful.{names_target}

-- they rise, are below the count, and all that a body posts to are among them
pub record AreTargets (count : ℕ) (rules : List Rule) (targets : List ℕ) : Type 0 where
  pub below : All (λ target. target < count) targets
  pub rise : (i j : ℕ) → i < j → j < length targets → slice_index_or targets i 0 < slice_index_or targets j 0
  pub all : (target : ℕ) → target < count → names_target rules target ≡ true → Contains targets target

-- those of each actor
abbrev pub AreTargetsOf : ℕ → List ActorPlan → List (List ℕ) → Type 0
AreTargetsOf count [] [] = Unit {0}
AreTargetsOf count [] (own ∷ targets) = ⊥
AreTargetsOf count (actor ∷ actors) [] = ⊥
AreTargetsOf count (actor ∷ actors) (own ∷ targets) = AreTargets count actor.rules own × AreTargetsOf count actors targets

-- the first actors before their first arrivals
abbrev pub new_actors : Plan → Limits → ℕ → ℕ → List Held
new_actors plan limits feeds count = map (λ index. new_actor plan index limits feeds) (numbers_from 0 count)
