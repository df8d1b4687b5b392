-- That an arrival's origin is the arrival whose firing posted it.
use Rattle.std.specs.Prelude.{◌≡◌, ℕ, List, Some, slice_get}
use Rattle.join_base.specs.declared.message.Message.{Message}
use Rattle.join_base.specs.declared.message.Source.TheVariants.{Actor}
use Rattle.pattern_core.specs.Members.{IsIn}
use Rattle.script_types.specs.declared.plan.Plan.{Plan}
use Rattle.fair_semantics.specs.declared.run.Effect.TheVariants as effect
use Rattle.fair_semantics.specs.declared.run.Entry.{Entry}
use Rattle.fair_semantics.specs.declared.run.Limits.{Limits}
use Rattle.fair_semantics.specs.declared.run.Run.{Run}
use Rattle.fair_semantics.specs.Linked.{IsLinked, firing_effects}
use Rattle.feed_causes.specs.Causes.{Arrived, arrivals, origin_at}

-- the arrival at a place has an origin, which is one of this actor, and whose firing posted this message to that one
pub record IsPosted (all : List Arrived) (place from to : ℕ) (message : Message) : Type 0 where
  pub origin : ℕ
  pub poster : Entry
  pub is : origin_at all place ≡ Some origin
  pub there : slice_get all origin ≡ Some (from, poster)
  pub posts : IsIn (effect.Post to message) (firing_effects poster.firing)

-- so it is with each arrival from an actor in a linked run
abbrev pub OriginsPosted : Type 0
OriginsPosted = (plan : Plan) (limits : Limits) (feeds : List (List (ℕ × Message))) (run : Run) → IsLinked plan limits feeds run
    → (place from : ℕ) (arrival : Arrived) → slice_get (arrivals run) place ≡ Some arrival → arrival.1.source ≡ Actor from → IsPosted (arrivals run) place from arrival.0 arrival.1.message
