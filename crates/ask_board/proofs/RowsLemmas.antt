-- The item of an ask, where it stands, and what changes where it is replaced.
use Rattle.std.proofs.Common.{◌≡◌, ◌≢◌, ◌∙◌, ◌-◌, ◌<◌, ◌⊎◌, inl, inr, ℕ, zero, suc, List, Option, Some, None, IsSome, length, map, slice_get, slice_set, refl, ap, sub-one}
use Rattle.std.proofs.lemmas.Bool.{cases_eq}
use Rattle.std.proofs.lemmas.Option.{slice_get_within}
use Rattle.ask_board.specs.declared.view.Ask.{Ask}
use Rattle.ask_board.specs.Rows.{Rows, from_one, item_of, map_rows}
use Rattle.ask_board.proofs.ListLemmas.{get_same, get_other, set_here, map_set, twin}

-- ---- places that are counted from 1

pub one_same : {X : Type 0} (xs : List X) (n : ℕ) (x y : X) → from_one xs n ≡ Some x → from_one (slice_set xs (n - 1) y) n ≡ Some y
one_same xs zero x y e = absurd cc
one_same xs (suc n) x y e = rw sub-one (get_same xs n x y e)

pub one_other : {X : Type 0} (xs : List X) (n m : ℕ) (x y : X) → from_one xs n ≡ Some x → m ≢ n → from_one (slice_set xs (n - 1) y) m ≡ from_one xs m
one_other xs zero m x y e h = absurd cc
one_other xs (suc n) zero x y e h = refl
one_other xs (suc n) (suc m) x y e h = rw sub-one (get_other xs n m y (λ same. h (ap suc same)))

pub one_here : {X : Type 0} (xs : List X) (n : ℕ) (x y : X) → from_one xs n ≡ Some x → slice_get xs (n - 1) ≡ Some y → x ≡ y
one_here xs zero x y e h = absurd cc
one_here {X} xs (suc n) x y e h = let here : slice_get xs n ≡ Some y = rw sub-one at h in cc

pub one_get : {X : Type 0} (xs : List X) (n : ℕ) (x : X) → from_one xs n ≡ Some x → slice_get xs (n - 1) ≡ Some x
one_get xs zero x e = absurd cc
one_get xs (suc n) x e = rw sub-one e

-- ---- where the item of an ask stands

pub same_ask : (x y : Ask) → x.feed ≡ y.feed → x.actor ≡ y.actor → x.place ≡ y.place → x ≡ y
same_ask x y f a p =
    ap (λ (n : ℕ). record { feed = n; actor = x.actor; place = x.place }) f
    ∙ ap (λ (n : ℕ). record { feed = y.feed; actor = n; place = x.place }) a
    ∙ ap (λ (n : ℕ). record { feed = y.feed; actor = y.actor; place = n }) p

pub record Stands {A : Type 0} (rows : Rows A) (ask : Ask) (actors : List (List A)) (posts : List A) (item : A) : Type 0 where
  pub feed : from_one rows ask.feed ≡ Some actors
  pub actor : slice_get actors ask.actor ≡ Some posts
  pub place : from_one posts ask.place ≡ Some item

pub item_stands : {A : Type 0} {rows : Rows A} {ask : Ask} {actors : List (List A)} {posts : List A} {item : A} → Stands rows ask actors posts item → item_of rows ask ≡ Some item
item_stands {A} {rows} {ask} s = rw (s.feed, s.actor) s.place

pub stands : {A : Type 0} (rows : Rows A) (ask : Ask) (item : A) → item_of rows ask ≡ Some item → (actors : List (List A)) × (posts : List A) × Stands rows ask actors posts item
stands {A} rows ask item e = by_feed (from_one rows ask.feed) refl
  where
    by_place : (actors : List (List A)) (posts : List A) → from_one rows ask.feed ≡ Some actors → slice_get actors ask.actor ≡ Some posts → (actors : List (List A)) × (posts : List A) × Stands rows ask actors posts item
    by_place actors posts f a = (actors, posts, record { feed = f; actor = a; place = rw (f, a) at e })

    by_actor : (actors : List (List A)) (o : Option (List A)) → from_one rows ask.feed ≡ Some actors → slice_get actors ask.actor ≡ o → (actors : List (List A)) × (posts : List A) × Stands rows ask actors posts item
    by_actor actors None f a = let none : None ≡ Some item = rw (f, a) at e in absurd cc
    by_actor actors (Some posts) f a = by_place actors posts f a

    by_feed : (o : Option (List (List A))) → from_one rows ask.feed ≡ o → (actors : List (List A)) × (posts : List A) × Stands rows ask actors posts item
    by_feed None f = let none : None ≡ Some item = rw f at e in absurd cc
    by_feed (Some actors) f = by_actor actors (slice_get actors ask.actor) f refl

-- the rows with an item in place of that of an ask
abbrev pub set_item : {A : Type 0} → Rows A → Ask → List (List A) → List A → A → Rows A
set_item rows ask actors posts y = slice_set rows (ask.feed - 1) (slice_set actors ask.actor (slice_set posts (ask.place - 1) y))

module _ {A : Type 0} {rows : Rows A} {ask : Ask} {actors : List (List A)} {posts : List A} {item : A} (s : Stands rows ask actors posts item) (y : A) where
  pub set_stands : Stands (set_item rows ask actors posts y) ask (slice_set actors ask.actor (slice_set posts (ask.place - 1) y)) (slice_set posts (ask.place - 1) y) y
  set_stands = record {
    feed = one_same rows ask.feed actors _ s.feed;
    actor = get_same actors ask.actor posts _ s.actor;
    place = one_same posts ask.place item y s.place;
  }

  pub set_same : item_of (set_item rows ask actors posts y) ask ≡ Some y
  set_same = item_stands set_stands

  pub set_other : (another : Ask) → another ≢ ask → item_of (set_item rows ask actors posts y) another ≡ item_of rows another
  set_other another h = by_feed (cases_eq another.feed ask.feed)
    where
      feed_set : another.feed ≡ ask.feed → from_one (set_item rows ask actors posts y) another.feed ≡ Some (slice_set actors ask.actor (slice_set posts (ask.place - 1) y))
      feed_set f = rw f set_stands.feed

      feed_old : another.feed ≡ ask.feed → from_one rows another.feed ≡ Some actors
      feed_old f = rw f s.feed

      by_place : another.feed ≡ ask.feed → another.actor ≡ ask.actor → (another.place ≡ ask.place) ⊎ (another.place ≡ ask.place → ⊥) → item_of (set_item rows ask actors posts y) another ≡ item_of rows another
      by_place f a (inl p) = absurd (h (same_ask another ask f a p))
      by_place f a (inr p) =
          let f1 = feed_set f in
          let f2 = feed_old f in
          let a1 : slice_get (slice_set actors ask.actor (slice_set posts (ask.place - 1) y)) another.actor ≡ Some (slice_set posts (ask.place - 1) y) = rw a set_stands.actor in
          let a2 : slice_get actors another.actor ≡ Some posts = rw a s.actor in
          rw (f1, f2, a1, a2) (one_other posts ask.place another.place item y s.place p)

      by_actor : another.feed ≡ ask.feed → (another.actor ≡ ask.actor) ⊎ (another.actor ≡ ask.actor → ⊥) → item_of (set_item rows ask actors posts y) another ≡ item_of rows another
      by_actor f (inl a) = by_place f a (cases_eq another.place ask.place)
      by_actor f (inr a) =
          let f1 = feed_set f in
          let f2 = feed_old f in
          let other : slice_get (slice_set actors ask.actor (slice_set posts (ask.place - 1) y)) another.actor ≡ slice_get actors another.actor = get_other actors ask.actor another.actor _ a in
          rw (f1, f2, other) refl

      by_feed : (another.feed ≡ ask.feed) ⊎ (another.feed ≡ ask.feed → ⊥) → item_of (set_item rows ask actors posts y) another ≡ item_of rows another
      by_feed (inl f) = by_actor f (cases_eq another.actor ask.actor)
      by_feed (inr f) = rw (one_other rows ask.feed another.feed actors (slice_set actors ask.actor (slice_set posts (ask.place - 1) y)) s.feed f) refl

  pub set_mapped : {B : Type 0} (f : A → B) → f y ≡ f item → map_rows f (set_item rows ask actors posts y) ≡ map_rows f rows
  set_mapped f same =
      map_set (λ (own : List (List A)). map (λ (posts : List A). map f posts) own) rows (ask.feed - 1) actors _ (one_get rows ask.feed actors s.feed)
      (map_set (λ (own : List A). map f own) actors ask.actor posts _ s.actor
      (map_set f posts (ask.place - 1) item y (one_get posts ask.place item s.place) same))

pub set_itself : {A : Type 0} {rows : Rows A} {ask : Ask} {actors : List (List A)} {posts : List A} {item : A} → Stands rows ask actors posts item → set_item rows ask actors posts item ≡ rows
set_itself {A} {rows} {ask} {actors} {posts} {item} s =
    let place : slice_set posts (ask.place - 1) item ≡ posts = set_here posts (ask.place - 1) item (one_get posts ask.place item s.place) in
    let actor : slice_set actors ask.actor posts ≡ actors = set_here actors ask.actor posts s.actor in
    let feed : slice_set rows (ask.feed - 1) actors ≡ rows = set_here rows (ask.feed - 1) actors (one_get rows ask.feed actors s.feed) in
    rw (place, actor) feed

-- the items of an ask in two rows that are mapped to the same
pub one_twin : {X Y Z : Type 0} (f : X → Z) (g : Y → Z) (xs : List X) (ys : List Y) (n : ℕ) (y : Y) → map f xs ≡ map g ys → from_one ys n ≡ Some y → (x : X) × (from_one xs n ≡ Some x) × (f x ≡ g y)
one_twin f g xs ys zero y m e = absurd cc
one_twin f g xs ys (suc n) y m e = twin f g xs ys n y m e

pub item_twin : {A B C : Type 0} (f : A → C) (g : B → C) (rows : Rows A) (others : Rows B) (ask : Ask) (other : B) → map_rows f rows ≡ map_rows g others → item_of others ask ≡ Some other → (item : A) × (item_of rows ask ≡ Some item) × (f item ≡ g other)
item_twin {A} {B} {C} f g rows others ask other m e =
    let s = (stands others ask other e).2 in
    let (own, o, os) = one_twin (λ (actors : List (List A)). map (λ (posts : List A). map f posts) actors) (λ (actors : List (List B)). map (λ (posts : List B). map g posts) actors) rows others ask.feed _ m s.feed in
    let (row, r, rs) = twin (λ (posts : List A). map f posts) (λ (posts : List B). map g posts) own _ ask.actor _ os s.actor in
    let (item, i, is) = one_twin f g row _ ask.place other rs s.place in
    let found : Stands rows ask own row item = record { feed = o; actor = r; place = i } in
    (item, item_stands found, is)

-- ---- the steps of a walk to the item

pub item_some : {A : Type 0} (o : Option A) → IsSome o → (x : A) × (o ≡ Some x)
item_some None h = absurd cc
item_some (Some x) h = (x, refl)

module _ {A : Type 0} (rows : Rows A) (ask : Ask) (has : IsSome (item_of rows ask)) where
  own_stands : (item : A) × (actors : List (List A)) × (posts : List A) × Stands rows ask actors posts item
  own_stands = let (item, is) = item_some (item_of rows ask) has in let (actors, posts, s) = stands rows ask item is in (item, actors, posts, s)

  actors_here : (own : List (List A)) → slice_get rows (ask.feed - 1) ≡ Some own → own_stands.1 ≡ own
  actors_here own f = one_here rows ask.feed _ own own_stands.3.feed f

  pub actor_within : (own : List (List A)) → slice_get rows (ask.feed - 1) ≡ Some own → ask.actor < length own
  actor_within own f = let at : slice_get own ask.actor ≡ Some own_stands.2 = rw (← actors_here own f) own_stands.3.actor in slice_get_within own ask.actor _ at

  posts_here : (own : List (List A)) (row : List A) → slice_get rows (ask.feed - 1) ≡ Some own → slice_get own ask.actor ≡ Some row → own_stands.2 ≡ row
  posts_here own row f a = let at : slice_get own ask.actor ≡ Some own_stands.2 = rw (← actors_here own f) own_stands.3.actor in cc

  pub place_within : (own : List (List A)) (row : List A) → slice_get rows (ask.feed - 1) ≡ Some own → slice_get own ask.actor ≡ Some row → ask.place - 1 < length row
  place_within own row f a = let at : from_one row ask.place ≡ Some own_stands.0 = rw (← posts_here own row f a) own_stands.3.place in slice_get_within row (ask.place - 1) _ (one_get row ask.place _ at)

  pub walked : (own : List (List A)) (row : List A) (x : A) → slice_get rows (ask.feed - 1) ≡ Some own → slice_get own ask.actor ≡ Some row → slice_get row (ask.place - 1) ≡ Some x → Stands rows ask own row x
  walked own row x f a p =
      let at : from_one row ask.place ≡ Some own_stands.0 = rw (← posts_here own row f a) own_stands.3.place in
      let here : own_stands.0 ≡ x = one_here row ask.place _ x at p in
      record {
        feed = rw (← actors_here own f) own_stands.3.feed;
        actor = a;
        place = rw (← here) at;
      }
