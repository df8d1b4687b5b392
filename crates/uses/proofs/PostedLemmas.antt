-- What the one poster of a pool sent.
use Rattle.std.proofs.Common.{◌≡◌, ◌∙◌, ℕ, zero, suc, ◌+◌, ◌<◌, List, [], ◌∷◌, ◌++◌, All, length, take, set, get_or, sym, ap, subst, arith}
use Rattle.std.specs.Prelude.{◌==◌, if◌then◌else◌, Some, slice_get}
use Rattle.std.specs.List.{AllByRecursion, filter_map}
use Rattle.std.proofs.lemmas.List.{take_more}
use Rattle.std.proofs.lemmas.List.Elements.{All-head}
use Rattle.join_base.specs.declared.message.Message.{Message}
use Rattle.join_base.specs.declared.message.Stamped.{Stamped}
use Rattle.script_types.specs.declared.plan.Plan.{Plan}
use Rattle.fair_semantics.specs.Fits.{PostFits}
use Rattle.fair_semantics.specs.Linked.{feed_posts, post_for}
use Rattle.post_ring.specs.Links.{stamped}
use Rattle.cell_links.specs.declared.ends.Outward.{Outward}
use Rattle.cell_links.specs.Ends.{SendsMore, SendsSame, sent_to}
use Rattle.cell_links.proofs.PosterLemmas.{none-sent}
use Rattle.actor_cells.specs.Prepared.{IsNewPoster}
use Rattle.actor_pool.specs.declared.poster.Poster.{Poster}
use Rattle.actor_pool.specs.Posters.{SendsAll, feed_ends, feed_links}
use Rattle.actor_pool.proofs.PosterLemmas.{all-more}
use Rattle.pool_run.specs.Finishing.{AreSent}
use Rattle.pool_run.proofs.RunLemmas.{feeds-exist, feeds-fit}

-- ---- the posts

-- each is for an actor of the pool
pub posts_exist : (plan : Plan) (n : ℕ) (posts : List (ℕ × Message)) → n ≡ length plan.actors → AllByRecursion (PostFits plan) posts → All (λ (post : ℕ × Message). post.0 < n) posts
posts_exist plan n posts same fits = All-head (All (λ (post : ℕ × Message). post.0 < n)) posts [] (feeds-exist plan n (posts ∷ []) same (fits, tt))

-- ---- what was sent

-- a post that was refused once
pub sent_later : (a b c : List Outward) (target : ℕ) (message other : Message) → other ≡ message → SendsSame a b → SendsMore b target (stamped other 0) c → SendsMore a target (stamped message 0) c
sent_later a b c target message other is same more =
    subst (λ (m : Message). SendsMore a target (stamped m 0) c) is (λ actor. more actor ∙ ap (λ (l : List Stamped). if target == actor then l ++ stamped other 0 ∷ [] else l) (same actor))

-- a copy of the next post
pub sent_more : (posts : List (ℕ × Message)) (i : ℕ) (a b c : List Outward) (post : ℕ × Message) (own : Message) → i < length posts → post ≡ get_or posts i post → own ≡ post.1
    → SendsAll a (take i posts) b → SendsMore b (post.0) (stamped own 0) c → SendsAll a (take (i + 1) posts) c
sent_more posts i a b c post own lt at copied all more =
    let longer = take_more posts i post lt ∙ ap (λ (p : ℕ × Message). take i posts ++ p ∷ []) (sym at) in
    subst (λ (done : List (ℕ × Message)). SendsAll a done c) (sym longer) (all-more a b c (take i posts) post all (subst (λ (m : Message). SendsMore b (post.0) (stamped m 0) c) copied more))

-- ---- the pool

-- a list of one
pub only_one : {X : Type 0} (xs : List X) (x : X) → length xs ≡ 1 → x ≡ get_or xs 0 x → xs ≡ x ∷ []
only_one [] x one at = absurd (omega (arith, one))
only_one (y ∷ []) x one at = ap (λ z. z ∷ []) (sym at)
only_one (y ∷ z ∷ xs) x one at = absurd (omega (arith, one))

pub set_one : {X : Type 0} (xs : List X) (x y : X) → xs ≡ x ∷ [] → set xs 0 y ≡ y ∷ []
set_one xs x y is = ap (λ l. set l 0 y) is

sent_at : (before after : Poster) (posts : List (ℕ × Message)) (actor k : ℕ) (poster : Poster) → sent_to (feed_links before) actor ≡ [] → SendsAll (feed_links before) posts (feed_links after)
    → slice_get (after ∷ []) k ≡ Some poster → feed_posts actor (slice_get (posts ∷ []) k) ≡ sent_to (feed_links poster) actor
sent_at before after posts actor zero poster none sent at =
    let same : after ≡ poster = cc in
    subst (λ (x : Poster). filter_map (post_for actor) posts ≡ sent_to (feed_links x) actor) same (sym (sent actor ∙ ap (λ (l : List Stamped). l ++ filter_map (post_for actor) posts) none))
sent_at before after posts actor (suc k) poster none sent at = absurd (let e : ⊥ = cc in e)

-- the posts are what its one poster sent
pub are_sent : (plan : Plan) (actors ring : ℕ) (posters now : List Poster) (before after : Poster) (posts : List (ℕ × Message)) → posters ≡ before ∷ [] → now ≡ after ∷ []
    → All (λ (poster : Poster). IsNewPoster actors ring (feed_ends poster)) posters → AllByRecursion (PostFits plan) posts → SendsAll (feed_links before) posts (feed_links after) → AreSent plan now (posts ∷ [])
are_sent plan actors ring posters now before after posts was is new fits sent =
    let begins = All-head (λ (poster : Poster). IsNewPoster actors ring (feed_ends poster)) before [] (subst (All (λ (poster : Poster). IsNewPoster actors ring (feed_ends poster))) was new) in
    record {
      count = sym (ap length is);
      values = feeds-fit plan (posts ∷ []) (fits, tt);
      each = λ k actor poster lt at. sent_at before after posts actor k poster (none-sent ring (feed_links before) actor begins.links) sent (subst (λ (l : List Poster). slice_get l k ≡ Some poster) is at);
    }
