-- From what was loaded to the system, and from the system to the run.
use Rattle.std.proofs.Common.{◌≡◌, ℕ, ◌≤◌, List, [], ◌∷◌, arith, subst, sym}
use Rattle.std.specs.List.{AllByRecursion}
use Rattle.join_base.specs.declared.message.Message.{Message}
use Rattle.script_types.specs.declared.plan.Plan.{Plan}
use Rattle.fair_semantics.specs.declared.run.Limits.{Limits}
use Rattle.fair_semantics.specs.declared.run.Run.{Run}
use Rattle.fair_semantics.specs.Fits.{PostFits}
use Rattle.fair_semantics.specs.Linked.{IsLinked}
use Rattle.run_order_law.specs.Order.{IsScheduled}
use Rattle.schedule_law.specs.Reached.{FeedsFit, ValuesFit}
use Rattle.command_words.specs.Command.{usual_options}
use Rattle.command_words.specs.Ranges.{AreInRange}
use Rattle.script_files.specs.Verdict.{Feeds}
use Rattle.join_command.specs.Output.{load_limits}
use Rattle.join_command.specs.Replying.{AreRunParts}
use Rattle.building_load.specs.Building.{load_plan}
use Rattle.building_load.specs.Rows.{load_feeds}
use Rattle.building_load.proofs.RowLemmas.{load_feeds_fit}
use Rattle.building_load.proofs.TypedLemmas.{load_plan_typed}

module _ (plan : Plan) where
  posts_fit : (posts : List (ℕ × Message)) → AllByRecursion (PostFits plan) posts → AllByRecursion (λ (post : ℕ × Message). ValuesFit post.1) posts
  posts_fit [] fits = tt
  posts_fit (post ∷ posts) fits = (fits.0.message.values, posts_fit posts fits.1)

  -- the values of posts that fit the plan are in their ranges
  pub feeds_fit : (feeds : Feeds) → AllByRecursion (AllByRecursion (PostFits plan)) feeds → FeedsFit feeds
  feeds_fit [] fits = tt
  feeds_fit (posts ∷ feeds) fits = (posts_fit posts fits.0, feeds_fit feeds fits.1)

-- what is linked to the parts of the system is linked to those that it was made of
pub linked_parts : (own plan : Plan) (bounds limits : Limits) (posts feeds : Feeds) (run : Run) → own ≡ plan → bounds ≡ limits → posts ≡ feeds → IsLinked own bounds posts run → IsLinked plan limits feeds run
linked_parts own plan bounds limits posts feeds run same_plan same_limits same_feeds linked =
    let P : Plan → Type 0 = λ p. IsLinked p bounds posts run in
    let L : Limits → Type 0 = λ l. IsLinked plan l posts run in
    let F : Feeds → Type 0 = λ f. IsLinked plan limits f run in
    subst F same_feeds (subst L same_limits (subst P same_plan linked))

-- and likewise a schedule
pub scheduled_parts : (own plan : Plan) (bounds limits : Limits) (posts feeds : Feeds) (run : Run) → own ≡ plan → bounds ≡ limits → posts ≡ feeds → IsScheduled own bounds posts run → IsScheduled plan limits feeds run
scheduled_parts own plan bounds limits posts feeds run same_plan same_limits same_feeds scheduled =
    let P : Plan → Type 0 = λ p. IsScheduled p bounds posts run in
    let L : Limits → Type 0 = λ l. IsScheduled plan l posts run in
    let F : Feeds → Type 0 = λ f. IsScheduled plan limits f run in
    subst F same_feeds (subst L same_limits (subst P same_plan scheduled))

pub usual_in_range : AreInRange usual_options
usual_in_range = record { workers = (omega arith, omega arith); ring = (omega arith, omega arith); arrivals = (omega arith, omega arith); partials = (omega arith, omega arith) }

-- the parts of the building's run
pub load_parts : (rows : ℕ) (plan : Plan) (feeds : Feeds) → rows ≤ 20000 → plan ≡ load_plan → feeds ≡ load_feeds rows → AreRunParts plan load_limits feeds
load_parts rows plan feeds few same_plan same_feeds =
    let parts : AreRunParts load_plan load_limits (load_feeds rows) = record {
      typed = load_plan_typed;
      arrivals = (omega arith, omega arith);
      partials = (omega arith, omega arith);
      feed_count = (omega arith, omega arith);
      fits = load_feeds_fit rows few;
    } in
    let P : Plan → Type 0 = λ p. AreRunParts p load_limits (load_feeds rows) in
    let F : Feeds → Type 0 = λ f. AreRunParts plan load_limits f in
    subst F (sym same_feeds) (subst P (sym same_plan) parts)
