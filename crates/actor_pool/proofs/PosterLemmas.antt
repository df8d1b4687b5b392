-- Facts on what posters sent, over plain lists.
use Rattle.std.proofs.Common.{◌≡◌, ℕ, zero, suc, ◌+◌, ◌<◌, ◌≤◌, ◌-◌, List, [], ◌∷◌, ◌++◌, Bool, true, false, All, length, map, reverse, get_or, refl, sym, ap, ◌∙◌, subst, arith, append_assoc}
use Rattle.std.specs.Prelude.{◌==◌, if◌then◌else◌, Option, Some, None, MatchOption}
use Rattle.std.specs.List.{filter_map}
use Rattle.std.proofs.lemmas.List.{append-nil, length-map, get_or-map, reverse-append, reverse-reverse}
use Rattle.std.proofs.lemmas.List.Elements.{All-nil, All-cons, All-head, All-tail, filter_map-append}
use mathlib.Core.List.{IsPrefix}
use Rattle.join_base.specs.declared.message.Message.{Message}
use Rattle.join_base.specs.declared.message.Stamped.{Stamped}
use Rattle.fair_semantics.specs.Linked.{post_for}
use Rattle.post_ring.specs.Links.{stamped}
use Rattle.cell_links.specs.declared.ends.Outward.{Outward}
use Rattle.cell_links.specs.declared.feed_links.FeedLinks as ends
use Rattle.cell_links.specs.Ends.{SendsMore, SendsSame, link_count, sent_to}
use Rattle.actor_pool.specs.declared.pool.Pool.{Pool}
use Rattle.actor_pool.specs.declared.poster.Poster.{Poster}
use Rattle.actor_pool.specs.Helpers.{actor_count}
use Rattle.actor_pool.specs.Posters.{SendsAll, SendsSome, IsSeated, IsPosterOf, feed_ends}

pub same-trans : (a b c : List Outward) → SendsSame a b → SendsSame b c → SendsSame a c
same-trans a b c h k target = k target ∙ h target

pub same-more : (a b c : List Outward) (target : ℕ) (post : Stamped) → SendsSame a b → SendsMore b target post c → SendsMore a target post c
same-more a b c target post same more other = more other ∙ ap (λ (l : List Stamped). if target == other then l ++ post ∷ [] else l) (same other)

-- one post more
pub all-more : (a b c : List Outward) (done : List (ℕ × Message)) (post : ℕ × Message) → SendsAll a done b → SendsMore b (post.0) (stamped (post.1) 0) c → SendsAll a (done ++ post ∷ []) c
all-more a b c done post all more actor =
    let one = by_test (post.0 == actor) (sent_to b actor) in
    more actor ∙ one ∙ ap (λ (l : List Stamped). l ++ filter_map (post_for actor) (post ∷ [])) (all actor)
    ∙ append_assoc (sent_to a actor) (filter_map (post_for actor) done) (filter_map (post_for actor) (post ∷ [])) ∙ ap (λ (l : List Stamped). sent_to a actor ++ l) (sym (filter_map-append (post_for actor) done (post ∷ [])))
  where
    by_test : (t : Bool) (l : List Stamped) → (if t then l ++ stamped (post.1) 0 ∷ [] else l) ≡ l ++ filter_map (λ (x : ℕ × Message). if t then Some (stamped (post.1) 0) else None) (post ∷ [])
    by_test true l = refl
    by_test false l = sym (append-nil l)

pub all-same : (a b c : List Outward) (done : List (ℕ × Message)) → SendsAll a done b → SendsSame b c → SendsAll a done c
all-same a b c done all same actor = same actor ∙ all actor

All-begin : {X : Type 0} (P : X → Type 0) (l : List X) (x : X) → All P (l ++ x ∷ []) → All P l
All-begin P [] x h = All-nil P
All-begin P (y ∷ l) x h = All-cons P y l (All-head P y (l ++ x ∷ []) h) (All-begin P l x (All-tail P y (l ++ x ∷ []) h))

pub All-front : {X : Type 0} (P : X → Type 0) (xs ys : List X) (x : X) → xs ≡ ys ++ x ∷ [] → All P xs → All P ys
All-front P xs ys x is all = All-begin P ys x (subst (All P) is all)

pub All-first : {X : Type 0} (P : X → Type 0) (xs ys : List X) (x : X) → xs ≡ x ∷ ys → All P xs → P x
All-first P xs ys x is all = All-head P x ys (subst (All P) is all)

pub All-rest : {X : Type 0} (P : X → Type 0) (xs ys : List X) (x : X) → xs ≡ x ∷ ys → All P xs → All P ys
All-rest P xs ys x is all = All-tail P x ys (subst (All P) is all)

-- the first ones of all, and the others
All-before : {X : Type 0} (P : X → Type 0) (xs ys : List X) → All P (xs ++ ys) → All P xs
All-before P [] ys h = All-nil P
All-before P (x ∷ xs) ys h = All-cons P x xs (All-head P x (xs ++ ys) h) (All-before P xs ys (All-tail P x (xs ++ ys) h))

All-behind : {X : Type 0} (P : X → Type 0) (xs ys : List X) → All P (xs ++ ys) → All P ys
All-behind P [] ys h = h
All-behind P (x ∷ xs) ys h = All-behind P xs ys (All-tail P x (xs ++ ys) h)

All-onto : {X : Type 0} (P : X → Type 0) (xs : List X) (x : X) → All P xs → P x → All P (xs ++ x ∷ [])
All-onto P [] x h p = All-cons P x [] p (All-nil P)
All-onto P (y ∷ ys) x h p = All-cons P y (ys ++ x ∷ []) (All-head P y ys h) (All-onto P ys x (All-tail P y ys h) p)

All-reverse : {X : Type 0} (P : X → Type 0) (xs : List X) → All P xs → All P (reverse xs)
All-reverse P [] h = h
All-reverse P (x ∷ xs) h =
    subst (All P) (sym (reverse-append (x ∷ []) xs)) (All-onto P (reverse xs) x (All-reverse P xs (All-tail P x xs h)) (All-head P x xs h))

-- what a reader gave was first
pub first-read : {X : Type 0} (old new : List X) (next : Option X) (x : X) → next ≡ Some x → MatchOption next ((old ≡ []) × (new ≡ [])) (λ post. old ≡ post ∷ new) → old ≡ x ∷ new
first-read old new next x is read = subst (λ n. MatchOption n ((old ≡ []) × (new ≡ [])) (λ post. old ≡ post ∷ new)) is read

-- the last of what waits is done
pub more-done : {X : Type 0} (all l ys done : List X) (x : X) → all ≡ done ++ reverse l → l ≡ ys ++ x ∷ [] → all ≡ (done ++ x ∷ []) ++ reverse ys
more-done all l ys done x is last =
    is ∙ ap (λ m. done ++ reverse m) last ∙ ap (λ m. done ++ m) (reverse-append ys (x ∷ [])) ∙ sym (append_assoc done (x ∷ []) (reverse ys))

-- ---- some posts, and then others

pub sends-both : (old mid now : List Outward) (xs ys : List (ℕ × Message)) → SendsAll old xs mid → SendsAll mid ys now → SendsAll old (xs ++ ys) now
sends-both old mid now xs ys first second actor =
    second actor ∙ ap (λ (l : List Stamped). l ++ filter_map (post_for actor) ys) (first actor)
    ∙ append_assoc (sent_to old actor) (filter_map (post_for actor) xs) (filter_map (post_for actor) ys) ∙ ap (λ (l : List Stamped). sent_to old actor ++ l) (sym (filter_map-append (post_for actor) xs ys))

-- a beginning of the first ones
pub some-first : (old now : List Outward) (xs ys : List (ℕ × Message)) → SendsSome old xs now → SendsSome old (xs ++ ys) now
some-first old now xs ys some =
    let left = some.1.0 in
    (some.0, (left ++ ys, sym (append_assoc (some.0) left ys) ∙ ap (λ (ps : List (ℕ × Message)). ps ++ ys) (some.1.1)), some.2)

-- the first ones, and a beginning of the others
pub some-second : (old mid now : List Outward) (xs ys : List (ℕ × Message)) → SendsAll old xs mid → SendsSome mid ys now → SendsSome old (xs ++ ys) now
some-second old mid now xs ys all some =
    (xs ++ some.0, (some.1.0, append_assoc xs (some.0) (some.1.0) ∙ ap (λ (ps : List (ℕ × Message)). xs ++ ps) (some.1.1)), sends-both old mid now xs (some.0) all (some.2))

-- of posts in two parts, the first of them turned round
module _ (posts whole turned packed : List (ℕ × Message)) (is : posts ≡ whole ++ packed) (turn : turned ≡ reverse whole) where
  straight : reverse turned ≡ whole
  straight = ap (λ (ps : List (ℕ × Message)). reverse ps) turn ∙ reverse-reverse whole

  pub turned-all : (P : ℕ × Message → Type 0) → All P posts → All P turned
  turned-all P all = subst (All P) (sym turn) (All-reverse P whole (All-before P whole packed (subst (All P) is all)))

  pub packed-all : (P : ℕ × Message → Type 0) → All P posts → All P packed
  packed-all P all = All-behind P whole packed (subst (All P) is all)

  pub parts-sent : (old mid now : List Outward) → SendsAll old (reverse turned) mid → SendsAll mid packed now → SendsAll old posts now
  parts-sent old mid now first second =
      subst (λ (ps : List (ℕ × Message)). SendsAll old ps now) (sym is) (sends-both old mid now whole packed (subst (λ (ps : List (ℕ × Message)). SendsAll old ps mid) straight first) second)

  pub first-sent : (old now : List Outward) → SendsSome old (reverse turned) now → SendsSome old posts now
  first-sent old now some =
      subst (λ (ps : List (ℕ × Message)). SendsSome old ps now) (sym is) (some-first old now whole packed (subst (λ (ps : List (ℕ × Message)). SendsSome old ps now) straight some))

  pub second-sent : (old mid now : List Outward) → SendsAll old (reverse turned) mid → SendsSome mid packed now → SendsSome old posts now
  second-sent old mid now first some =
      subst (λ (ps : List (ℕ × Message)). SendsSome old ps now) (sym is) (some-second old mid now whole packed (subst (λ (ps : List (ℕ × Message)). SendsAll old ps mid) straight first) some)

pub ends-more : (made now : List ends.FeedLinks) (l ys : List Poster) (x : Poster) (all : List ends.FeedLinks) → made ++ map feed_ends (reverse l) ≡ all → l ≡ ys ++ x ∷ [] → now ≡ made ++ feed_ends x ∷ []
    → now ++ map feed_ends (reverse ys) ≡ all
ends-more made now l ys x all is last more =
    ap (λ (m : List ends.FeedLinks). m ++ map feed_ends (reverse ys)) more ∙ append_assoc made (feed_ends x ∷ []) (map feed_ends (reverse ys))
    ∙ ap (λ (m : List ends.FeedLinks). made ++ m) (sym (ap (λ (m : List Poster). map feed_ends (reverse m)) last ∙ ap (map feed_ends) (reverse-append ys (x ∷ [])))) ∙ is

-- posters with seats, over links to each actor
pub posters-own : (p : Pool) (posters : List Poster) (made : List ends.FeedLinks) (n : ℕ) → All (IsSeated p.turns) posters → map feed_ends posters ≡ made → All (λ (e : ends.FeedLinks). link_count e ≡ n) made → n ≡ actor_count p → All (IsPosterOf p) posters
posters-own p posters made n seated same links count k d lt =
    let long = length-map posters feed_ends in
    let whole = ap length same in
    let at = ap (λ (l : List ends.FeedLinks). get_or l k (feed_ends d)) (sym same) ∙ get_or-map feed_ends posters k d (feed_ends d) lt in
    record {
      seated = seated k d lt;
      links = subst (λ (e : ends.FeedLinks). link_count e ≡ n) at (links k (feed_ends d) (omega (arith, long, whole, lt))) ∙ count;
    }
