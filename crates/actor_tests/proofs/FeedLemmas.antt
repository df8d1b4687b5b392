-- The values of feeds that fit a plan are in their ranges.
use Rattle.std.proofs.Common.{ℕ, List, [], ◌∷◌}
use Rattle.std.specs.List.{AllByRecursion}
use Rattle.join_base.specs.declared.message.Message.{Message}
use Rattle.script_types.specs.declared.plan.Plan.{Plan}
use Rattle.fair_semantics.specs.Fits.{PostFits}
use Rattle.schedule_law.specs.Reached.{FeedsFit, ValuesFit}

posts_fit : (plan : Plan) (posts : List (ℕ × Message)) → AllByRecursion (PostFits plan) posts → AllByRecursion (λ (post : ℕ × Message). ValuesFit post.1) posts
posts_fit plan [] fits = tt
posts_fit plan (post ∷ posts) fits = (fits.0.message.values, posts_fit plan posts fits.1)

pub feeds_fit : (plan : Plan) (feeds : List (List (ℕ × Message))) → AllByRecursion (AllByRecursion (PostFits plan)) feeds → FeedsFit feeds
feeds_fit plan [] fits = tt
feeds_fit plan (posts ∷ feeds) fits = (posts_fit plan posts fits.0, feeds_fit plan feeds fits.1)
