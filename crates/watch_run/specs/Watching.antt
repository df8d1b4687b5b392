-- A run that was watched.
use Rattle.std.specs.Prelude.{◌≡◌, ℕ, List}
use Rattle.join_base.specs.declared.message.Message.{Message}
use Rattle.script_types.specs.declared.plan.Plan.{Plan}
use Rattle.fair_semantics.specs.declared.run.Limits.{Limits}
use Rattle.fair_semantics.specs.declared.run.Run.{Run}
use Rattle.fair_semantics.specs.Linked.{IsLinked}
use Rattle.run_order_law.specs.Order.{IsScheduled}
use Rattle.live_board.specs.declared.totals.Totals.{Totals}
use Rattle.watch_run.specs.BoardText.{totals_in}

-- a run that is linked to the feeds and that is that of one schedule of single steps, and the board of its totals
pub record IsWatched (plan : Plan) (limits : Limits) (feeds : List (List (ℕ × Message))) (made : Run × List Totals) : Type 0 where
  pub linked : IsLinked plan limits feeds (made.0)
  pub scheduled : IsScheduled plan limits feeds (made.0)
  pub version : (made.0).version ≡ 2
  pub board : made.1 ≡ totals_in (made.0)
