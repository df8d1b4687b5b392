-- From what threads gave back to what finishing asks.
use Rattle.std.proofs.Common.{◌≡◌, ℕ, zero, suc, ◌<◌, List, [], ◌∷◌, ◌++◌, All, length, map, refl, sym, ap, ◌∙◌, subst}
use Rattle.std.specs.Prelude.{Some, slice_get}
use Rattle.std.specs.List.{AllByRecursion, AllZip, filter_map}
use Rattle.std.proofs.lemmas.List.{length-map}
use Rattle.std.proofs.lemmas.List.Elements.{All-nil, All-cons, All-head, All-tail}
use Rattle.join_base.specs.declared.message.Message.{Message}
use Rattle.join_base.specs.declared.message.Stamped.{Stamped}
use Rattle.script_types.specs.declared.plan.Plan.{Plan}
use Rattle.fair_semantics.specs.declared.run.Limits.{Limits}
use Rattle.fair_semantics.specs.Fits.{PostFits}
use Rattle.fair_semantics.specs.Linked.{feed_posts, post_for}
use Rattle.schedule_law.specs.Reached.{FeedsFit, ValuesFit}
use Rattle.cell_links.specs.Ends.{PosterTag}
use Rattle.cell_links.proofs.PosterLemmas.{none-sent}
use Rattle.actor_cells.specs.declared.cell.CellTag.{CellTag}
use Rattle.actor_cells.specs.Prepared.{AreWired, IsNewPoster}
use Rattle.actor_pool.specs.declared.helper.Helper.{Helper}
use Rattle.actor_pool.specs.declared.pool.Pool.{Pool}
use Rattle.actor_pool.specs.declared.poster.Poster.{Poster}
use Rattle.actor_pool.specs.Helpers.{IsHelperOf, IsFirstHelper, seat_of}
use Rattle.actor_pool.specs.Posters.{IsPosterOf, feed_ends, feed_tag, feed_links}
use Rattle.actor_cells.specs.Tags.{AreTagsOf}
use Rattle.actor_pool.specs.Whole.{IsWhole}
use Rattle.pool_run.specs.declared.parts.FeedPart.{FeedPart}
use Rattle.pool_run.specs.Finishing.{AreSent}
use Rattle.pool_run.specs.Parts.{IsFed, part_poster, part_posts}

-- ---- what the posts of feeds are

posts-fit : (plan : Plan) (posts : List (ℕ × Message)) → AllByRecursion (PostFits plan) posts → AllByRecursion (λ (post : ℕ × Message). ValuesFit post.1) posts
posts-fit plan [] fits = tt
posts-fit plan (post ∷ posts) fits = (fits.0.message.values, posts-fit plan posts fits.1)

pub feeds-fit : (plan : Plan) (feeds : List (List (ℕ × Message))) → AllByRecursion (AllByRecursion (PostFits plan)) feeds → FeedsFit feeds
feeds-fit plan [] fits = tt
feeds-fit plan (posts ∷ feeds) fits = (posts-fit plan posts fits.0, feeds-fit plan feeds fits.1)

abbrev IsFor : ℕ → ℕ × Message → Type 0
IsFor n post = post.0 < n

posts-exist : (plan : Plan) (n : ℕ) (posts : List (ℕ × Message)) → n ≡ length plan.actors → AllByRecursion (PostFits plan) posts → All (IsFor n) posts
posts-exist plan n [] same fits = All-nil (IsFor n)
posts-exist plan n (post ∷ posts) same fits = All-cons (IsFor n) post posts (subst (λ (m : ℕ). post.0 < m) (sym same) fits.0.actor) (posts-exist plan n posts same fits.1)

-- each post is for an actor of the pool
pub feeds-exist : (plan : Plan) (n : ℕ) (feeds : List (List (ℕ × Message))) → n ≡ length plan.actors → AllByRecursion (AllByRecursion (PostFits plan)) feeds → All (All (λ (post : ℕ × Message). post.0 < n)) feeds
feeds-exist plan n [] same fits = All-nil (All (IsFor n))
feeds-exist plan n (posts ∷ feeds) same fits = All-cons (All (IsFor n)) posts feeds (posts-exist plan n posts same fits.0) (feeds-exist plan n feeds same fits.1)

-- ---- what came back

-- one part more, with its poster
pub zip-more : {A B : Type 0} (R : A → B → Type 0) (xs : List A) (ys : List B) (x : A) (y : B) → AllZip R xs ys → R x y → AllZip R (xs ++ x ∷ []) (ys ++ y ∷ [])
zip-more R [] [] x y all one = (one, tt)
zip-more R [] (b ∷ ys) x y all one = absurd all
zip-more R (a ∷ xs) [] x y all one = absurd all
zip-more R (a ∷ xs) (b ∷ ys) x y all one = (all.0, zip-more R xs ys x y all.1 one)

-- the same where both lists got one more at their end
pub zip-on : {A B : Type 0} (R : A → B → Type 0) (xs now : List A) (ys later : List B) (x : A) (y : B) → now ≡ xs ++ x ∷ [] → later ≡ ys ++ y ∷ [] → AllZip R xs ys → R x y → AllZip R now later
zip-on {A} R xs now ys later x y last more all one = subst (λ (l : List A). AllZip R l later) (sym last) (subst (AllZip R (xs ++ x ∷ [])) (sym more) (zip-more R xs ys x y all one))

module _ {B : Type 0} (p : Pool) where
  fed-count : (parts : List (FeedPart B)) (posters : List Poster) → AllZip (IsFed p) parts posters → length posters ≡ length parts
  fed-count [] [] all = refl
  fed-count [] (b ∷ posters) all = absurd all
  fed-count (a ∷ parts) [] all = absurd all
  fed-count (a ∷ parts) (b ∷ posters) all = ap suc (fed-count parts posters all.1)

  fed-own : (parts : List (FeedPart B)) (posters : List Poster) → AllZip (IsFed p) parts posters → All (IsPosterOf p) posters
  fed-own [] [] all = All-nil (IsPosterOf p)
  fed-own [] (b ∷ posters) all = absurd all
  fed-own (a ∷ parts) [] all = absurd all
  fed-own (a ∷ parts) (b ∷ posters) all = All-cons (IsPosterOf p) b posters all.0.own (fed-own parts posters all.1)

  fed-tags : (parts : List (FeedPart B)) (posters : List Poster) → AllZip (IsFed p) parts posters → map feed_tag posters ≡ map feed_tag (map part_poster parts)
  fed-tags [] [] all = refl
  fed-tags [] (b ∷ posters) all = absurd all
  fed-tags (a ∷ parts) [] all = absurd all
  fed-tags (a ∷ parts) (b ∷ posters) all = λ i. all.0.tag i ∷ fed-tags parts posters all.1 i

  fed-at : (parts : List (FeedPart B)) (posters : List Poster) (k : ℕ) (now : Poster) → AllZip (IsFed p) parts posters → slice_get posters k ≡ Some now
      → (part : FeedPart B) × (slice_get (map part_poster parts) k ≡ Some part.poster) × (slice_get (map part_posts parts) k ≡ Some part.posts) × IsFed p part now
  fed-at [] [] k now all at = absurd (let e : ⊥ = cc in e)
  fed-at [] (b ∷ posters) k now all at = absurd all
  fed-at (a ∷ parts) [] k now all at = absurd all
  fed-at (a ∷ parts) (b ∷ posters) zero now all at = (a, refl, refl, (let e : b ≡ now = cc in subst (IsFed p a) e all.0))
  fed-at (a ∷ parts) (b ∷ posters) (suc k) now all at = fed-at parts posters k now all.1 at

All-at : {X : Type 0} (P : X → Type 0) (xs : List X) (k : ℕ) (x : X) → All P xs → slice_get xs k ≡ Some x → P x
All-at P [] k x all at = absurd (let e : ⊥ = cc in e)
All-at P (y ∷ xs) zero x all at = (let e : y ≡ x = cc in subst P e (All-head P y xs all))
All-at P (y ∷ xs) (suc k) x all at = All-at P xs k x (All-tail P y xs all) at

-- what was sent are the posts of the feeds
pub sent-now : {B : Type 0} (plan : Plan) (p : Pool) (actors ring : ℕ) (posters : List Poster) (feeds : List (List (ℕ × Message))) (parts : List (FeedPart B)) (now : List Poster) → map part_poster parts ≡ posters → map part_posts parts ≡ feeds
    → All (λ (poster : Poster). IsNewPoster actors ring (feed_ends poster)) posters → AllZip (IsFed p) parts now → FeedsFit feeds → AreSent plan now feeds
sent-now plan p actors ring posters feeds parts now same posts new fed fits = record {
  count = ap length (sym posts) ∙ length-map parts part_posts ∙ sym (fed-count p parts now fed);
  values = fits;
  each = λ k actor poster lt at.
      let found = fed-at p parts now k poster fed at in
      let begins = All-at (λ (x : Poster). IsNewPoster actors ring (feed_ends x)) posters k found.0.poster new (ap (λ (l : List Poster). slice_get l k) (sym same) ∙ found.1) in
      let none = none-sent ring (feed_links found.0.poster) actor begins.links in
      ap (λ (l : List (List (ℕ × Message))). feed_posts actor (slice_get l k)) (sym posts) ∙ ap (feed_posts actor) found.2
      ∙ sym (found.3.sent actor ∙ ap (λ (l : List Stamped). l ++ filter_map (post_for actor) found.0.posts) none);
}

-- the pool has all its parts again
pub whole-now : {B : Type 0} (plan : Plan) (limits : Limits) (p : Pool) (posters : List Poster) (h : Helper) (parts : List (FeedPart B)) (now : List Poster) (helper : Helper) → IsWhole plan limits p posters h → map part_poster parts ≡ posters
    → AllZip (IsFed p) parts now → IsHelperOf p helper → IsFirstHelper p 0 helper → (seat_of helper).tags ≡ (seat_of h).tags → IsWhole plan limits p now helper
whole-now plan limits p posters h parts now helper whole same fed own first tags =
    let count : length now ≡ length posters = fed-count p parts now fed ∙ sym (length-map parts part_poster) ∙ ap length same in
    let links : map feed_tag now ≡ map feed_tag posters = fed-tags p parts now fed ∙ ap (map feed_tag) same in
    record {
      own = own;
      first = first;
      feeds = count ∙ whole.feeds;
      posters_own = fed-own p parts now fed;
      tags = subst (λ (n : ℕ). AreTagsOf plan limits n (seat_of helper).tags) (sym count) (subst (AreTagsOf plan limits (length posters)) (sym tags) whole.tags);
      wired = subst (λ (l : List PosterTag). AreWired (seat_of helper).tags l) (sym links) (subst (λ (l : List CellTag). AreWired l (map feed_tag posters)) (sym tags) whole.wired);
    }

-- as many posters came back as there are feeds
pub count-now : {B : Type 0} (p : Pool) (feeds : List (List (ℕ × Message))) (parts : List (FeedPart B)) (now : List Poster) → map part_posts parts ≡ feeds → AllZip (IsFed p) parts now → length now ≡ length feeds
count-now p feeds parts now posts fed = fed-count p parts now fed ∙ sym (length-map parts part_posts) ∙ ap length posts

-- there is a part for each feed
pub feeds-count : {B : Type 0} (feeds : List (List (ℕ × Message))) (parts : List (FeedPart B)) → map part_posts parts ≡ feeds → length parts ≡ length feeds
feeds-count feeds parts posts = sym (length-map parts part_posts) ∙ ap length posts
