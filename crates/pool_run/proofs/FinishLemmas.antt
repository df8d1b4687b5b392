-- From what a closed pool gives to what settling asks, and from what settling gives to what finishing claims.
use Rattle.std.proofs.Common.{◌≡◌, ℕ, zero, suc, ◌<◌, List, [], ◌∷◌, ◌++◌, length, map, refl, sym, ap, ◌∙◌, subst, arith, append_assoc}
use Rattle.std.specs.Prelude.{Some, slice_get}
use Rattle.std.proofs.lemmas.List.{append-nil, length-map}
use Rattle.std.proofs.lemmas.Option.{slice_get_within}
use mathlib.Core.List.{IsPrefix}
use Rattle.join_base.specs.declared.message.Message.{Message}
use Rattle.script_types.specs.declared.plan.Plan.{Plan}
use Rattle.fair_semantics.specs.declared.run.ActorRun.{ActorRun}
use Rattle.fair_semantics.specs.declared.run.Limits.{Limits}
use Rattle.fair_semantics.specs.declared.run.Run.{Run}
use Rattle.cell_links.specs.declared.feed_links.FeedLinks as ends
use Rattle.cell_links.specs.Ends.{PosterTag, poster_links, poster_tag, sent_to}
use Rattle.actor_cells.specs.declared.cell.Cell.{Cell}
use Rattle.actor_cells.specs.declared.cell.CellTag.{CellTag}
use Rattle.actor_cells.specs.AllLawful.{AreLawful}
use Rattle.actor_cells.specs.Lawful.{cell_tag}
use Rattle.actor_cells.specs.Prepared.{AreWired}
use Rattle.actor_cells.proofs.HistoryLemmas.{prefix-bare}
use Rattle.actor_cells.specs.Tags.{AreTagsOf}
use Rattle.pool_settling.specs.Settling.{AreFeedsWith, GoesOnFrom, IsLinkedToAll, IsScheduledOverAll, TakesFew}
use Rattle.actor_pool.specs.declared.poster.Poster.{Poster}
use Rattle.actor_pool.specs.Helpers.{SeatView}
use Rattle.actor_pool.specs.Posters.{feed_ends, feed_tag}
use Rattle.actor_pool.specs.Whole.{HoldSeen}
use Rattle.pool_run.specs.Finishing.{AreSent, FinishesFew, GoesOnFromSeen, IsLinkedToSent, IsScheduledOverSent}

prefix-trans : {X : Type 0} (a b c : List X) → IsPrefix a b → IsPrefix b c → IsPrefix a c
prefix-trans a b c p q = (p.0 ++ q.0, sym (append_assoc a p.0 q.0) ∙ ap (λ l. l ++ q.0) p.1 ∙ q.1)

pub tags-of : (posters : List Poster) → map poster_tag (map feed_ends posters) ≡ map feed_tag posters
tags-of [] = refl
tags-of (p ∷ posters) = ap (λ (l : List PosterTag). feed_tag p ∷ l) (tags-of posters)

pub own-tags : (plan : Plan) (limits : Limits) (n m : ℕ) (tags now : List CellTag) → n ≡ m → now ≡ tags → AreTagsOf plan limits n tags → AreTagsOf plan limits m now
own-tags plan limits n m tags now same is h = subst (λ (x : ℕ × List CellTag). AreTagsOf plan limits x.0 x.1) (λ i. (same i, sym is i)) h

pub own-wired : (tags now : List CellTag) (posters : List Poster) (own : List ends.FeedLinks) → now ≡ tags → own ≡ map feed_ends posters → AreWired tags (map feed_tag posters) → AreWired now (map poster_tag own)
own-wired tags now posters own is same wired =
    subst (λ (l : List CellTag). AreWired l (map poster_tag own)) (sym is)
    (subst (λ (l : List PosterTag). AreWired tags l) (sym (ap (map poster_tag) same ∙ tags-of posters)) wired)

poster-at : (posters : List Poster) (k : ℕ) (e : ends.FeedLinks) → slice_get (map feed_ends posters) k ≡ Some e → (poster : Poster) × (slice_get posters k ≡ Some poster) × (feed_ends poster ≡ e)
poster-at [] k e at = absurd (let e : ⊥ = cc in e)
poster-at (p ∷ posters) zero e at = (p, refl, (let same : feed_ends p ≡ e = cc in same))
poster-at (p ∷ posters) (suc k) e at = poster-at posters k e at

pub ends-count : (posters : List Poster) (own : List ends.FeedLinks) → own ≡ map feed_ends posters → length own ≡ length posters
ends-count posters own same = ap length same ∙ length-map posters feed_ends

sent-with : (plan : Plan) (posters : List Poster) (own : List ends.FeedLinks) (feeds : List (List (ℕ × Message))) → own ≡ map feed_ends posters → AreSent plan posters feeds → AreFeedsWith plan own [] feeds
sent-with plan posters own feeds same sent = record {
  count = sent.count ∙ sym (ends-count posters own same);
  values = sent.values;
  each = λ k actor e lt at.
      let found = poster-at posters k e (ap (λ (l : List ends.FeedLinks). slice_get l k) (sym same) ∙ at) in
      sent.each k actor found.0 lt found.1 ∙ ap (λ (x : ends.FeedLinks). sent_to (poster_links x) actor) found.2 ∙ sym (append-nil (sent_to (poster_links e) actor));
}

pub linked-sent : (plan : Plan) (limits : Limits) (posters : List Poster) (own : List ends.FeedLinks) (run : Run) → own ≡ map feed_ends posters → IsLinkedToAll plan limits own [] run → IsLinkedToSent plan limits posters run
linked-sent plan limits posters own run same linked feeds sent = linked feeds (sent-with plan posters own feeds same sent)

pub scheduled-sent : (plan : Plan) (limits : Limits) (posters : List Poster) (own : List ends.FeedLinks) (run : Run) → own ≡ map feed_ends posters → IsScheduledOverAll plan limits own [] run → IsScheduledOverSent plan limits posters run
scheduled-sent plan limits posters own run same scheduled feeds sent = scheduled feeds (sent-with plan posters own feeds same sent)

cell-at : (cells : List Cell) (i : ℕ) → i < length cells → (c : Cell) × (slice_get cells i ≡ Some c)
cell-at [] i lt = absurd (omega (arith, lt))
cell-at (c ∷ cells) zero lt = (c, refl)
cell-at (c ∷ cells) (suc i) lt = cell-at cells i (omega (arith, lt))

module _ (plan : Plan) (posters : List Poster) (own : List ends.FeedLinks) (v : SeatView) (cells : List Cell) (run : Run) (same : own ≡ map feed_ends posters) (hold : HoldSeen v cells) (on : GoesOnFrom plan own [] cells run) where
  cell_of : (actor : ℕ) (mine : ActorRun) → slice_get run.actors actor ≡ Some mine → (c : Cell) × (slice_get cells actor ≡ Some c)
  cell_of actor mine at =
      let within = slice_get_within run.actors actor mine at in
      let long = on.count in
      cell-at cells actor (omega (arith, within, long))

  pub seen-on : GoesOnFromSeen plan posters v run
  seen-on = record {
    arrivals = λ actor mine at. let c = cell_of actor mine at in prefix-trans _ _ _ (prefix-bare _ _ (hold actor c.0 c.1)) (on.arrivals actor c.0 mine c.1 at);
    history = λ feeds sent actor mine at. let c = cell_of actor mine at in prefix-trans _ _ _ (hold actor c.0 c.1) (on.history feeds (sent-with plan posters own feeds same sent) actor c.0 mine c.1 at);
  }

pub few-taken : (v : SeatView) (posters : List Poster) (own : List ends.FeedLinks) (cells : List Cell) (run : Run) → own ≡ map feed_ends posters → AreLawful cells → map cell_tag cells ≡ v.tags → HoldSeen v cells → TakesFew own cells [] run → FinishesFew v posters run
few-taken v posters own cells run same lawful tags seen few = record { cells = cells; lawful = lawful; tags = tags; seen = seen; few = subst (λ (l : List ends.FeedLinks). TakesFew l cells [] run) same few }
