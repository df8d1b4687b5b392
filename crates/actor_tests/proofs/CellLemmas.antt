-- What the tests need: cells that were prepared and served, and posters that posted.
use Rattle.std.proofs.Common.{◌≡◌, ◌∙◌, ℕ, zero, suc, List, [], ◌∷◌, length, map, set, Some, slice_get, ap, subst, sym}
use Rattle.std.specs.Prelude.{Result}
use Rattle.std.proofs.lemmas.List.{length-map, length-replicate, length-set}
use Rattle.join_base.specs.declared.items.NoMemory.{NoMemory}
use Rattle.script_types.specs.declared.plan.Plan.{Plan}
use Rattle.fair_semantics.specs.declared.run.Limits.{Limits}
use Rattle.fair_semantics.proofs.ListLemmas.{mapped_at}
use Rattle.actor_turn.specs.Held.{Held, new_actor}
use Rattle.cell_links.specs.declared.feed_links.FeedLinks.{FeedLinks}
use Rattle.cell_links.specs.Ends.{link_count, outward_tag, poster_links, poster_tag}
use Rattle.actor_cells.specs.declared.cell.Cell.{Cell}
use Rattle.actor_cells.specs.declared.serving.Turned.{Turned}
use Rattle.actor_cells.specs.Lawful.{cell_tag, held_in}
use Rattle.actor_cells.specs.Prepared.{ArePrepared, IsServedAt}
use Rattle.actor_cells.specs.Tags.{AreTagsOf, IsTagOf}

pub count-kept : (p q : FeedLinks) → poster_tag p ≡ poster_tag q → link_count p ≡ link_count q
count-kept p q same = sym (length-map (poster_links p) outward_tag) ∙ ap length same ∙ length-map (poster_links q) outward_tag

pub served-count : (place : ℕ) (old now : List Cell) (result : Result Turned NoMemory) → IsServedAt place old now result → length now ≡ length old
served-count place old now result s = ap length s.only ∙ length-set old place s.after

pub prepared_tags : (plan : Plan) (limits : Limits) (feeds ring : ℕ) (cells : List Cell) (posters : List FeedLinks) → ArePrepared plan limits feeds ring cells posters → AreTagsOf plan limits feeds (map cell_tag cells)
prepared_tags plan limits feeds ring cells posters are = record {
  count = length-map cells cell_tag ∙ are.count;
  each = λ actor tag is.
      let c = mapped_at cell_tag cells actor tag is in
      let new : held_in c.0 ≡ new_actor plan actor limits feeds = (are.opening actor c.0 c.1).actor in
      subst (IsTagOf plan limits feeds actor) c.2 record {
        sorts = ap (λ (h : Held). h.setting.sorts) new;
        rules = ap (λ (h : Held). h.setting.rules) new;
        same_limits = ap (λ (h : Held). h.setting.limits) new;
        feed_count = ap (λ (h : Held). length h.state.late.feeds) new ∙ length-replicate feeds 0;
        actor_count = ap (λ (h : Held). length h.state.late.actors) new ∙ length-replicate (length plan.actors) 0;
      };
}

map_set : {X Y : Type 0} (f : X → Y) (xs : List X) (k : ℕ) (x y : X) → slice_get xs k ≡ Some x → f y ≡ f x → map f (set xs k y) ≡ map f xs
map_set f [] k x y at same = absurd cc
map_set {X} {Y} f (z ∷ xs) zero x y at same = let is : x ≡ z = cc in ap (λ (v : Y). v ∷ map f xs) (same ∙ ap f is)
map_set {X} {Y} f (z ∷ xs) (suc k) x y at same = ap (λ (vs : List Y). f z ∷ vs) (map_set f xs k x y at same)

pub served_tags : (place : ℕ) (old now : List Cell) (result : Result Turned NoMemory) → IsServedAt place old now result → map cell_tag now ≡ map cell_tag old
served_tags place old now result s = ap (map cell_tag) s.only ∙ map_set cell_tag old place s.before s.after s.here s.kept.tag
