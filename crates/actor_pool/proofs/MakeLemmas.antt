-- A pool that was made of prepared cells is whole.
use Rattle.std.proofs.Common.{◌≡◌, ℕ, zero, suc, ◌+◌, ◌<◌, List, [], ◌∷◌, ◌++◌, All, length, map, get_or, refl, sym, ap, ◌∙◌, subst, arith, replicate}
use Rattle.std.specs.Prelude.{Option, Some, None, slice_get}
use Rattle.std.proofs.lemmas.List.{length-map, length-replicate, get_or-map}
use Rattle.script_types.specs.declared.plan.Plan.{Plan}
use Rattle.fair_semantics.specs.declared.run.Limits.{Limits}
use Rattle.actor_turn.specs.Held.{Held}
use Rattle.cell_links.specs.declared.feed_links.FeedLinks as ends
use Rattle.cell_links.specs.Ends.{PosterTag, link_count, poster_tag}
use Rattle.actor_cells.specs.declared.cell.Cell.{Cell}
use Rattle.actor_cells.specs.declared.cell.CellTag.{CellTag}
use Rattle.actor_cells.specs.Lawful.{cell_tag}
use Rattle.actor_cells.specs.Prepared.{ArePrepared, AreWired, IsNewPoster, IsOpening}
use Rattle.actor_pool.specs.declared.helper.Helper.{Helper}
use Rattle.actor_pool.specs.declared.pool.Pool.{Pool}
use Rattle.actor_pool.specs.declared.poster.Poster.{Poster}
use Rattle.actor_pool.specs.Helpers.{IsHelperOf, IsFirstHelper, seat_of, feed_count}
use Rattle.actor_pool.specs.Posters.{IsPosterOf, feed_ends, feed_tag}
use Rattle.actor_pool.specs.Whole.{IsWhole}
use Rattle.actor_cells.specs.Tags.{AreTagsOf, IsTagOf}

-- the cell of a tag
tag-at : (cells : List Cell) (i : ℕ) (tag : CellTag) → slice_get (map cell_tag cells) i ≡ Some tag → (c : Cell) × (slice_get cells i ≡ Some c) × (cell_tag c ≡ tag)
tag-at [] i tag at = absurd (let e : ⊥ = cc in e)
tag-at (c ∷ cells) zero tag at = (c, refl, (let e : cell_tag c ≡ tag = cc in e))
tag-at (c ∷ cells) (suc i) tag at = tag-at cells i tag at

opening-tag : (plan : Plan) (limits : Limits) (feeds ring index n : ℕ) (c : Cell) → feeds ≡ n → IsOpening plan limits feeds ring index c → IsTagOf plan limits n index (cell_tag c)
opening-tag plan limits feeds ring index n c count opening = record {
  sorts = ap (λ (h : Held). h.setting.sorts) opening.actor;
  rules = ap (λ (h : Held). h.setting.rules) opening.actor;
  same_limits = ap (λ (h : Held). h.setting.limits) opening.actor;
  feed_count = ap (λ (h : Held). length h.state.late.feeds) opening.actor ∙ length-replicate feeds 0 ∙ count;
  actor_count = ap (λ (h : Held). length h.state.late.actors) opening.actor ∙ length-replicate (length plan.actors) 0;
}

prepared-tags : (plan : Plan) (limits : Limits) (feeds ring n : ℕ) (cells : List Cell) (posters : List ends.FeedLinks) → n ≡ length posters → ArePrepared plan limits feeds ring cells posters → AreTagsOf plan limits n (map cell_tag cells)
prepared-tags plan limits feeds ring n cells posters count prepared = record {
  count = length-map cells cell_tag ∙ prepared.count;
  each = λ actor tag at.
      let found = tag-at cells actor tag at in
      subst (IsTagOf plan limits n actor) found.2 (opening-tag plan limits feeds ring actor n found.0 (sym prepared.feed_count ∙ sym count) (prepared.opening actor found.0 found.1));
}

tags-of : (posters : List Poster) → map poster_tag (map feed_ends posters) ≡ map feed_tag posters
tags-of [] = refl
tags-of (p ∷ posters) = ap (λ (l : List PosterTag). feed_tag p ∷ l) (tags-of posters)

pub made-whole : (plan : Plan) (limits : Limits) (feeds ring : ℕ) (cells : List Cell) (made : List ends.FeedLinks) (p : Pool) (posters : List Poster) (h : Helper)
    → ArePrepared plan limits feeds ring cells made → AreWired (map cell_tag cells) (map poster_tag made) → IsHelperOf p h → IsFirstHelper p 0 h → feed_count p ≡ length made → All (IsPosterOf p) posters
    → map feed_ends posters ≡ made → (seat_of h).tags ≡ map cell_tag cells → IsWhole plan limits p posters h
made-whole plan limits feeds ring cells made p posters h prepared wired own first count own_posters same tags =
    let long : length posters ≡ length made = sym (length-map posters feed_ends) ∙ ap length same in
    record {
      own = own;
      first = first;
      feeds = long ∙ sym count;
      posters_own = own_posters;
      tags = subst (AreTagsOf plan limits (length posters)) (sym tags) (prepared-tags plan limits feeds ring (length posters) cells made long prepared);
      wired = subst (λ (l : List CellTag). AreWired l (map feed_tag posters)) (sym tags)
          (subst (λ (l : List PosterTag). AreWired (map cell_tag cells) l) (ap (map poster_tag) (sym same) ∙ tags-of posters) wired);
    }

-- what holds of all ends holds of those of the posters
pub All-ends : (P : ends.FeedLinks → Type 0) (posters : List Poster) (made : List ends.FeedLinks) → map feed_ends posters ≡ made → All P made → All (λ (poster : Poster). P (feed_ends poster)) posters
All-ends P posters made same all k d lt =
    let long = length-map posters feed_ends in
    let whole = ap length same in
    let at = ap (λ (l : List ends.FeedLinks). get_or l k (feed_ends d)) (sym same) ∙ get_or-map feed_ends posters k d (feed_ends d) lt in
    subst P at (all k (feed_ends d) (omega (arith, long, whole, lt)))

pub prepared-links : (plan : Plan) (limits : Limits) (feeds ring : ℕ) (cells : List Cell) (made : List ends.FeedLinks) → ArePrepared plan limits feeds ring cells made → All (λ (e : ends.FeedLinks). link_count e ≡ length cells) made
prepared-links plan limits feeds ring cells made prepared k d lt = (prepared.each k d lt).count ∙ sym prepared.count
