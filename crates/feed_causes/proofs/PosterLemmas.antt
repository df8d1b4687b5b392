-- The arrival whose firing made a post, by the posts of an actor's entries.
use Rattle.std.proofs.Common.{◌≡◌, ◌∙◌, inl, inr, ℕ, zero, suc, ◌+◌, ◌-◌, ◌<◌, ◌≤◌, Bool, true, false, cond, List, [], ◌∷◌, ◌++◌, append_assoc, length, map, replicate, None, Some, slice_get, refl, sym, ap, subst, arith}
use Rattle.std.specs.Prelude.{◌==◌, if◌then◌else◌}
use Rattle.std.specs.List.{cons_option, count_by, filter_map, flat_map}
use Rattle.std.proofs.lemmas.Bool.{cases_lt, eq-eqb, eqb-true}
use Rattle.std.proofs.lemmas.Bool.Decides.{nat_tests}
use Rattle.std.proofs.lemmas.List.{length-map, map-append}
use Rattle.std.proofs.lemmas.List.Recursion.{is_count_by}
use Rattle.join_base.specs.declared.message.Message.{Message}
use Rattle.join_base.specs.declared.message.Stamped.{Stamped}
use Rattle.pattern_core.specs.Members.{IsIn}
use Rattle.fair_semantics.specs.declared.run.ActorRun.{ActorRun}
use Rattle.fair_semantics.specs.declared.run.Effect.{Effect}
use Rattle.fair_semantics.specs.declared.run.Effect.TheVariants as effect
use Rattle.fair_semantics.specs.declared.run.Entry.{Entry}
use Rattle.fair_semantics.specs.Linked.{effect_for, entry_posts, firing_effects, messages_of, posts_in}
use Rattle.fair_semantics.proofs.ListLemmas.{mapped_at}
use Rattle.fair_semantics.proofs.StampLemmas.{found_in}
use Rattle.feed_causes.specs.Causes.{Arrived, arrivals_from, at_actor, is_post_to, posters, posts_by}
use Rattle.feed_causes.proofs.OriginLemmas.{behind_get, front_get}

-- ---- lists

pub get_left : {X : Type 0} (xs ys : List X) (k : ℕ) (x : X) → slice_get xs k ≡ Some x → slice_get (xs ++ ys) k ≡ Some x
get_left [] ys k x at = absurd cc
get_left (y ∷ xs) ys zero x at = at
get_left (y ∷ xs) ys (suc k) x at = get_left xs ys k x at

pub get_front : {X : Type 0} (xs ys : List X) (k : ℕ) → k < length xs → slice_get (xs ++ ys) k ≡ slice_get xs k
get_front [] ys k less = absurd (omega (arith, less))
get_front (x ∷ xs) ys zero less = refl
get_front (x ∷ xs) ys (suc k) less = get_front xs ys k (omega (arith, less))

pub get_behind : {X : Type 0} (xs ys : List X) (k : ℕ) → length xs ≤ k → slice_get (xs ++ ys) k ≡ slice_get ys (k - length xs)
get_behind [] ys k few = let same : k ≡ k - 0 = omega arith in ap (slice_get ys) same
get_behind (x ∷ xs) ys zero few = absurd (omega (arith, few))
get_behind (x ∷ xs) ys (suc k) few =
    let same : k - length xs ≡ suc k - suc (length xs) = omega arith in
    get_behind xs ys k (omega (arith, few)) ∙ ap (slice_get ys) same

pub get_added : {X : Type 0} (xs ys : List X) (k : ℕ) → slice_get (xs ++ ys) (length xs + k) ≡ slice_get ys k
get_added [] ys k = let same : 0 + k ≡ k = omega arith in ap (slice_get ys) same
get_added (x ∷ xs) ys k = let same : suc (length xs) + k ≡ suc (length xs + k) = omega arith in ap (slice_get (x ∷ (xs ++ ys))) same ∙ get_added xs ys k

not_same : (j k : ℕ) → j < k → (j == k) ≡ false
not_same j k less = grind (arith, nat_tests)

-- ---- the posts of an entry

post_step : (to stamp : ℕ) (e : Effect) (effects : List Effect)
    → length (filter_map (effect_for to stamp) (e ∷ effects)) ≡ cond (is_post_to to e) (1 + length (filter_map (effect_for to stamp) effects)) (length (filter_map (effect_for to stamp) effects))
post_step to stamp (effect.Print line) effects = refl
post_step to stamp (effect.Reply number value) effects = refl
post_step to stamp (effect.Post target message) effects = by (target == to)
  where
    by : (b : Bool) → length (cons_option (if b then Some record { message = message; stamp = stamp } else None) (filter_map (effect_for to stamp) effects))
        ≡ cond b (1 + length (filter_map (effect_for to stamp) effects)) (length (filter_map (effect_for to stamp) effects))
    by true = omega arith
    by false = refl

-- they are as many as were counted
posts_counted : (to : ℕ) (e : Entry) → length (entry_posts to e) ≡ count_by (is_post_to to) (firing_effects e.firing)
posts_counted to e = is_count_by (λ (effects : List Effect). length (filter_map (effect_for to e.stamp) effects)) (is_post_to to) refl (post_step to e.stamp) (firing_effects e.firing)

own_posts : (from to : ℕ) (e : Entry) → posts_by from to (at_actor from e) ≡ length (entry_posts to e)
own_posts from to e = ap (λ (b : Bool). if b then count_by (is_post_to to) (firing_effects e.firing) else 0) (eq-eqb from from refl) ∙ sym (posts_counted to e)

other_posts : (from to actor : ℕ) (e : Entry) → (actor == from) ≡ false → posts_by from to (at_actor actor e) ≡ 0
other_posts from to actor e other = ap (λ (b : Bool). if b then count_by (is_post_to to) (firing_effects e.firing) else 0) other

-- each of them is an effect
posted_in : (to stamp : ℕ) (effects : List Effect) (post : Stamped) → IsIn post (filter_map (effect_for to stamp) effects) → IsIn (effect.Post to post.message) effects
posted_in to stamp [] post none = absurd none
posted_in to stamp (effect.Print line ∷ effects) post at = inr (posted_in to stamp effects post at)
posted_in to stamp (effect.Reply number value ∷ effects) post at = inr (posted_in to stamp effects post at)
posted_in to stamp (effect.Post target message ∷ effects) post at = by (target == to) refl (posted_in to stamp effects post) at
  where
    by : (b : Bool) → (target == to) ≡ b → (IsIn post (filter_map (effect_for to stamp) effects) → IsIn (effect.Post to post.message) effects)
        → IsIn post (cons_option (if b then Some record { message = message; stamp = stamp } else None) (filter_map (effect_for to stamp) effects)) → IsIn (effect.Post to post.message) (effect.Post target message ∷ effects)
    by true is later (inl same) = let target_is = eqb-true target to is in let message_is = ap (λ (p : Stamped). p.message) same in inl (λ i. effect.Post (target_is i) (message_is i))
    by true is later (inr behind) = inr (later behind)
    by false is later behind = inr (later behind)

-- ---- the posters among an actor's entries

-- the post behind so many has this message: an entry's firing made it
pub record HasPoster (from to first : ℕ) (entries : List Entry) (behind : ℕ) (message : Message) : Type 0 where
  pub at : ℕ
  pub poster : Entry
  pub there : slice_get entries at ≡ Some poster
  pub is : slice_get (posters from to first (map (at_actor from) entries)) behind ≡ Some (first + at)
  pub posts : IsIn (effect.Post to message) (firing_effects poster.firing)

module _ (from to first : ℕ) (e : Entry) (entries : List Entry) (behind : ℕ) (message : Message) where
  -- the first entry's did
  poster_first : behind < length (entry_posts to e) → slice_get (messages_of (entry_posts to e)) behind ≡ Some message → HasPoster from to first (e ∷ entries) behind message
  poster_first less at =
      let post = mapped_at (λ (p : Stamped). p.message) (entry_posts to e) behind message at in
      let few : behind < posts_by from to (at_actor from e) = subst (λ (n : ℕ). behind < n) (sym (own_posts from to e)) less in
      let here : first ≡ first + 0 = omega arith in
      record {
        at = 0;
        poster = e;
        there = refl;
        is = front_get (posts_by from to (at_actor from e)) first (posters from to (first + 1) (map (at_actor from) entries)) behind few ∙ ap (λ (n : ℕ). Some n) here;
        posts = subst (λ (m : Message). IsIn (effect.Post to m) (firing_effects e.firing)) post.2 (posted_in to e.stamp (firing_effects e.firing) post.0 (found_in (entry_posts to e) behind post.0 post.1));
      }

  -- a later one's did
  poster_next : length (entry_posts to e) ≤ behind → HasPoster from to (first + 1) entries (behind - length (entry_posts to e)) message → HasPoster from to first (e ∷ entries) behind message
  poster_next few later =
      let many : posts_by from to (at_actor from e) ≤ behind = subst (λ (n : ℕ). n ≤ behind) (sym (own_posts from to e)) few in
      let there : first + 1 + later.at ≡ first + suc later.at = omega arith in
      record {
        at = suc later.at;
        poster = later.poster;
        there = later.there;
        is =
            behind_get (posts_by from to (at_actor from e)) first (posters from to (first + 1) (map (at_actor from) entries)) behind many
            ∙ ap (λ (n : ℕ). slice_get (posters from to (first + 1) (map (at_actor from) entries)) (behind - n)) (own_posts from to e)
            ∙ later.is
            ∙ ap (λ (n : ℕ). Some n) there;
        posts = later.posts;
      }

has_poster : (from to first : ℕ) (entries : List Entry) (behind : ℕ) (message : Message) → slice_get (messages_of (flat_map (entry_posts to) entries)) behind ≡ Some message → HasPoster from to first entries behind message
has_poster from to first [] behind message at = absurd cc
has_poster from to first (e ∷ entries) behind message at = elim (cases_lt behind (length (entry_posts to e))) [
  | inl less ↦ poster_first from to first e entries behind message less (here less)
  | inr few ↦ poster_next from to first e entries behind message few (has_poster from to (first + 1) entries (behind - length (entry_posts to e)) message (later few))
]
  where
    count : length (messages_of (entry_posts to e)) ≡ length (entry_posts to e)
    count = length-map (entry_posts to e) (λ (p : Stamped). p.message)

    split : slice_get (messages_of (entry_posts to e) ++ messages_of (flat_map (entry_posts to) entries)) behind ≡ Some message
    split = ap (λ (ms : List Message). slice_get ms behind) (sym (map-append (λ (p : Stamped). p.message) (entry_posts to e) (flat_map (entry_posts to) entries))) ∙ at

    here : behind < length (entry_posts to e) → slice_get (messages_of (entry_posts to e)) behind ≡ Some message
    here less = sym (get_front (messages_of (entry_posts to e)) (messages_of (flat_map (entry_posts to) entries)) behind (subst (λ (n : ℕ). behind < n) (sym count) less)) ∙ split

    later : length (entry_posts to e) ≤ behind → slice_get (messages_of (flat_map (entry_posts to) entries)) (behind - length (entry_posts to e)) ≡ Some message
    later few =
        ap (λ (n : ℕ). slice_get (messages_of (flat_map (entry_posts to) entries)) (behind - n)) (sym count)
        ∙ sym (get_behind (messages_of (entry_posts to e)) (messages_of (flat_map (entry_posts to) entries)) behind (subst (λ (n : ℕ). n ≤ behind) (sym count) few))
        ∙ split

-- ---- the posters among all arrivals

posters-append : (from to first : ℕ) (xs ys : List Arrived) → posters from to first (xs ++ ys) ≡ posters from to first xs ++ posters from to (first + length xs) ys
posters-append from to first [] ys = let same : first ≡ first + 0 = omega arith in ap (λ (n : ℕ). posters from to n ys) same
posters-append from to first (x ∷ xs) ys =
    let same : first + 1 + length xs ≡ first + suc (length xs) = omega arith in
    ap (λ (ps : List ℕ). replicate (posts_by from to x) first ++ ps) (posters-append from to (first + 1) xs ys)
    ∙ sym (append_assoc (replicate (posts_by from to x) first) (posters from to (first + 1) xs) (posters from to (first + 1 + length xs) ys))
    ∙ ap (λ (n : ℕ). replicate (posts_by from to x) first ++ posters from to (first + 1) xs ++ posters from to n ys) same

no_posters : (from to first actor : ℕ) (entries : List Entry) → (actor == from) ≡ false → posters from to first (map (at_actor actor) entries) ≡ []
no_posters from to first actor [] other = refl
no_posters from to first actor (e ∷ entries) other =
    ap (λ (n : ℕ). replicate n first ++ posters from to (first + 1) (map (at_actor actor) entries)) (other_posts from to actor e other) ∙ no_posters from to (first + 1) actor entries other

pub record IsMadeBy (from to actor first : ℕ) (runs : List ActorRun) (behind : ℕ) (message : Message) : Type 0 where
  pub at : ℕ
  pub poster : Entry
  pub there : slice_get (arrivals_from actor runs) at ≡ Some (from, poster)
  pub is : slice_get (posters from to first (arrivals_from actor runs)) behind ≡ Some (first + at)
  pub posts : IsIn (effect.Post to message) (firing_effects poster.firing)

module _ (from to first : ℕ) (own : ActorRun) (runs : List ActorRun) (behind : ℕ) (message : Message) where
  -- it is of the first actor
  made_here : HasPoster from to first own.entries behind message → IsMadeBy from to from first (own ∷ runs) behind message
  made_here has = record {
    at = has.at;
    poster = has.poster;
    there = get_left (map (at_actor from) own.entries) (arrivals_from (from + 1) runs) has.at (from, has.poster) (get_map own.entries has.at has.poster has.there);
    is =
        ap (λ (ps : List ℕ). slice_get ps behind) (posters-append from to first (map (at_actor from) own.entries) (arrivals_from (from + 1) runs))
        ∙ get_left (posters from to first (map (at_actor from) own.entries)) (posters from to (first + length (map (at_actor from) own.entries)) (arrivals_from (from + 1) runs)) behind (first + has.at) has.is;
    posts = has.posts;
  }
    where
      get_map : (entries : List Entry) (k : ℕ) (e : Entry) → slice_get entries k ≡ Some e → slice_get (map (at_actor from) entries) k ≡ Some (from, e)
      get_map [] k e at = absurd cc
      get_map (x ∷ entries) zero e at = let same : x ≡ e = cc in ap (λ (y : Entry). Some (at_actor from y)) same
      get_map (x ∷ entries) (suc k) e at = get_map entries k e at

  made_first : (actor : ℕ) → from ≡ actor → HasPoster from to first own.entries behind message → IsMadeBy from to actor first (own ∷ runs) behind message
  made_first actor same has = subst (λ (a : ℕ). IsMadeBy from to a first (own ∷ runs) behind message) same (made_here has)

  -- it is of a later one
  made_next : (actor : ℕ) → actor < from → IsMadeBy from to (actor + 1) (first + length own.entries) runs behind message → IsMadeBy from to actor first (own ∷ runs) behind message
  made_next actor less later = record {
    at = length own.entries + later.at;
    poster = later.poster;
    there =
        ap (λ (n : ℕ). slice_get (map (at_actor actor) own.entries ++ arrivals_from (actor + 1) runs) (n + later.at)) (sym many)
        ∙ get_added (map (at_actor actor) own.entries) (arrivals_from (actor + 1) runs) later.at
        ∙ later.there;
    is =
        ap (λ (ps : List ℕ). slice_get ps behind) (posters-append from to first (map (at_actor actor) own.entries) (arrivals_from (actor + 1) runs))
        ∙ ap (λ (ps : List ℕ). slice_get (ps ++ posters from to (first + length (map (at_actor actor) own.entries)) (arrivals_from (actor + 1) runs)) behind) (no_posters from to first actor own.entries apart)
        ∙ ap (λ (n : ℕ). slice_get (posters from to (first + n) (arrivals_from (actor + 1) runs)) behind) many
        ∙ later.is
        ∙ ap (λ (n : ℕ). Some n) sum;
    posts = later.posts;
  }
    where
      many : length (map (at_actor actor) own.entries) ≡ length own.entries
      many = length-map own.entries (at_actor actor)

      apart : (actor == from) ≡ false
      apart = not_same actor from less

      sum : first + length own.entries + later.at ≡ first + (length own.entries + later.at)
      sum = omega arith

-- the post behind so many of an actor to another is one of its firings'
pub made_by : (from to actor first : ℕ) (runs : List ActorRun) (k behind : ℕ) (message : Message) → from ≡ actor + k → slice_get (messages_of (posts_in to (slice_get runs k))) behind ≡ Some message → IsMadeBy from to actor first runs behind message
made_by from to actor first [] k behind message is at = absurd cc
made_by from to actor first (own ∷ runs) zero behind message is at =
    made_first from to first own runs behind message actor (omega (arith, is)) (has_poster from to first own.entries behind message at)
made_by from to actor first (own ∷ runs) (suc k) behind message is at =
    made_next from to first own runs behind message actor (omega (arith, is)) (made_by from to (actor + 1) (first + length own.entries) runs k behind message (omega (arith, is)) at)
