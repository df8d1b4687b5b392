-- A pool has all its parts again behind posts and turns, and the posts of a feed are for its actors.
use Rattle.std.proofs.Common.{◌≡◌, ◌∙◌, ℕ, ◌<◌, List, [], ◌∷◌, All, length, map, sym, subst}
use Rattle.std.specs.List.{AllByRecursion}
use Rattle.std.proofs.lemmas.List.Elements.{All-nil, All-cons}
use Rattle.join_base.specs.declared.message.Message.{Message}
use Rattle.script_types.specs.declared.plan.Plan.{Plan}
use Rattle.fair_semantics.specs.declared.run.Limits.{Limits}
use Rattle.fair_semantics.specs.Fits.{PostFits}
use Rattle.cell_links.specs.Ends.{PosterTag}
use Rattle.actor_cells.specs.declared.cell.CellTag.{CellTag}
use Rattle.actor_cells.specs.Prepared.{AreWired}
use Rattle.actor_cells.specs.Tags.{AreTagsOf}
use Rattle.actor_pool.specs.declared.helper.Helper.{Helper}
use Rattle.actor_pool.specs.declared.pool.Pool.{Pool}
use Rattle.actor_pool.specs.declared.poster.Poster.{Poster}
use Rattle.actor_pool.specs.Helpers.{IsHelperOf, seat_of}
use Rattle.actor_pool.specs.Posters.{IsPosterOf, feed_tag}
use Rattle.actor_pool.specs.Whole.{IsWhole}

pub whole_again : (plan : Plan) (limits : Limits) (p : Pool) (posters now : List Poster) (h helper : Helper) → IsWhole plan limits p posters h → length now ≡ length posters → All (IsPosterOf p) now
    → map feed_tag now ≡ map feed_tag posters → IsHelperOf p helper → (seat_of helper).role ≡ (seat_of h).role → (seat_of helper).tags ≡ (seat_of h).tags → IsWhole plan limits p now helper
whole_again plan limits p posters now h helper whole count posters_own links own role tags = record {
  own = own;
  first = role ∙ whole.first;
  feeds = count ∙ whole.feeds;
  posters_own = posters_own;
  tags = subst (λ (n : ℕ). AreTagsOf plan limits n (seat_of helper).tags) (sym count) (subst (AreTagsOf plan limits (length posters)) (sym tags) whole.tags);
  wired = subst (λ (l : List PosterTag). AreWired (seat_of helper).tags l) (sym links) (subst (λ (l : List CellTag). AreWired l (map feed_tag posters)) (sym tags) whole.wired);
}

abbrev IsFor : ℕ → ℕ × Message → Type 0
IsFor n post = post.0 < n

pub posts_exist : (plan : Plan) (n : ℕ) (posts : List (ℕ × Message)) → n ≡ length plan.actors → AllByRecursion (PostFits plan) posts → All (IsFor n) posts
posts_exist plan n [] same fits = All-nil (IsFor n)
posts_exist plan n (post ∷ posts) same fits = All-cons (IsFor n) post posts (subst (λ (m : ℕ). post.0 < m) (sym same) fits.0.actor) (posts_exist plan n posts same fits.1)
