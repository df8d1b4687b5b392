-- The tags of the cells of a plan.
use Rattle.std.specs.Prelude.{◌≡◌, ℕ, List, Some, length, slice_get}
use Rattle.script_types.specs.declared.plan.Plan.{Plan}
use Rattle.fair_semantics.specs.declared.run.Limits.{Limits}
use Rattle.fair_semantics.specs.Fair.{setting_of}
use Rattle.actor_cells.specs.declared.cell.CellTag.{CellTag}

-- the tag of the cell of an actor of the plan, where there are so many feeds
pub record IsTagOf (plan : Plan) (limits : Limits) (feeds actor : ℕ) (tag : CellTag) : Type 0 where
  pub sorts : tag.sorts ≡ (setting_of plan actor limits).sorts
  pub rules : tag.rules ≡ (setting_of plan actor limits).rules
  pub same_limits : tag.limits ≡ limits
  pub feed_count : tag.feeds ≡ feeds
  pub actor_count : tag.actors ≡ length plan.actors

-- a tag for each actor of the plan, in order
pub record AreTagsOf (plan : Plan) (limits : Limits) (feeds : ℕ) (tags : List CellTag) : Type 0 where
  pub count : length tags ≡ length plan.actors
  pub each : (actor : ℕ) (tag : CellTag) → slice_get tags actor ≡ Some tag → IsTagOf plan limits feeds actor tag
