-- A cell for each post, and which asks there are then.
use Rattle.std.proofs.Common.{◌≡◌, ◌∙◌, ◌+◌, ◌≤◌, ◌<◌, ◌⊎◌, inl, inr, ℕ, zero, suc, List, [], ◌∷◌, ◌++◌, true, false, Option, Some, None, IsSome, length, take, get_or, replicate, slice_get, slice_set, refl, sym, ap, add-zero, arith}
use Rattle.std.specs.Prelude.{◌==◌, ◌↔◌, cond}
use Rattle.std.proofs.lemmas.List.{length-replicate, length-set, append-nil, length_push, take_all, take_more}
use Rattle.std.proofs.lemmas.List.Sums.{sum_by-append}
use Rattle.std.specs.Option.{IsSomeAnd, option_and_then, option_map}
use Rattle.std.proofs.lemmas.Bool.{cases_eq}
use Rattle.std.proofs.lemmas.Bool.Decides.{nat_tests}
use Rattle.std.proofs.lemmas.Option.{slice_get_within}
use Rattle.join_base.specs.declared.message.Message.{Message}
use Rattle.feed_store.proofs.LeftLemmas.{one_done}
use Rattle.ask_board.specs.declared.view.Ask.{Ask}
use Rattle.ask_board.specs.Rows.{Rows, from_one, item_of}
use Rattle.ask_board.specs.Board.{AreCellsOf, IsPost, posts_to}
use Rattle.ask_board.proofs.ListLemmas.{get_same, get_other}

get_replicate : {X : Type 0} (n k : ℕ) (x : X) → k < n → slice_get (replicate n x) k ≡ Some x
get_replicate zero k x l = absurd (omega arith)
get_replicate (suc n) zero x l = refl
get_replicate (suc n) (suc k) x l = get_replicate n k x (omega arith)

pub no_posts : {C : Type 0} (n : ℕ) → AreCellsOf {C = C} n [] (replicate n [])
no_posts {C} n = record {
  rows = length-replicate n [];
  counts = λ actor l. rw (get_replicate {X = List C} n actor [] l) refl;
}

posts_more : (actor : ℕ) (posts : List (ℕ × Message)) (post : ℕ × Message) → posts_to actor (posts ++ post ∷ []) ≡ posts_to actor posts + posts_to actor (post ∷ [])
posts_more actor posts post = sum_by-append (λ (p : ℕ × Message). cond (p.0 == actor) 1 0) posts (post ∷ [])

to_this : (actor : ℕ) (post : ℕ × Message) → actor ≡ post.0 → posts_to actor (post ∷ []) ≡ 1
to_this actor post e = let same : (post.0 == actor) ≡ true = grind (arith, nat_tests) in rw same refl

to_another : (actor : ℕ) (post : ℕ × Message) → (actor ≡ post.0 → ⊥) → posts_to actor (post ∷ []) ≡ 0
to_another actor post h = let other : (post.0 == actor) ≡ false = grind (arith, nat_tests) in rw other refl

-- a post to one of the actors, and a cell more in its row
pub cell_more : {C : Type 0} (n : ℕ) (posts : List (ℕ × Message)) (rows : List (List C)) (post : ℕ × Message) (row new : List C) → AreCellsOf n posts rows → slice_get rows post.0 ≡ Some row → length new ≡ length row + 1 → AreCellsOf n (posts ++ post ∷ []) (slice_set rows post.0 new)
cell_more {C} n posts rows post row new h at more = record {
  rows = length-set rows post.0 new ∙ h.rows;
  counts = λ actor l. by actor l (cases_eq actor post.0);
}
  where
    here : post.0 < n → Some (length row) ≡ Some (posts_to post.0 posts)
    here l = let own = h.counts post.0 l in rw at at own

    by : (actor : ℕ) → actor < n → (actor ≡ post.0) ⊎ (actor ≡ post.0 → ⊥) → option_map length (slice_get (slice_set rows post.0 new) actor) ≡ Some (posts_to actor (posts ++ post ∷ []))
    by actor l (inl e) =
        let one : posts_to actor (post ∷ []) ≡ 1 = to_this actor post e in
        let l' : post.0 < n = omega arith in
        let old : Some (length row) ≡ Some (posts_to post.0 posts) = here l' in
        let now : slice_get (slice_set rows post.0 new) post.0 ≡ Some new = get_same rows post.0 row new at in
        let count : posts_to post.0 (posts ++ post ∷ []) ≡ posts_to post.0 posts + 1 = posts_more post.0 posts post ∙ ap (λ (k : ℕ). posts_to post.0 posts + k) (to_this post.0 post refl) in
        let length_is : length row ≡ posts_to post.0 posts = cc in
        rw (e, now, count, more, length_is) refl
    by actor l (inr e) =
        let none : posts_to actor (post ∷ []) ≡ 0 = to_another actor post e in
        let same : posts_to actor (posts ++ post ∷ []) ≡ posts_to actor posts = posts_more actor posts post ∙ (ap (λ (k : ℕ). posts_to actor posts + k) none ∙ add-zero (posts_to actor posts)) in
        rw (get_other rows post.0 actor new e, same) (h.counts actor l)

-- a post to none of them
pub post_passed : {C : Type 0} (n : ℕ) (posts : List (ℕ × Message)) (rows : List (List C)) (post : ℕ × Message) → AreCellsOf n posts rows → n ≤ post.0 → AreCellsOf n (posts ++ post ∷ []) rows
post_passed n posts rows post h past = record {
  rows = h.rows;
  counts = λ actor l.
      let other : actor ≡ post.0 → ⊥ = λ e. absurd (omega arith) in
      let none : posts_to actor (post ∷ []) ≡ 0 = to_another actor post other in
      let same : posts_to actor (posts ++ post ∷ []) ≡ posts_to actor posts = posts_more actor posts post ∙ (ap (λ (k : ℕ). posts_to actor posts + k) none ∙ add-zero (posts_to actor posts)) in
      rw same (h.counts actor l);
}

-- for each feed the cells of its posts
abbrev pub AreCells : {C : Type 0} → ℕ → List (List (ℕ × Message)) → Rows C → Type 0
AreCells n [] [] = Unit {0}
AreCells n [] (cells ∷ rows) = ⊥
AreCells n (posts ∷ feeds) [] = ⊥
AreCells n (posts ∷ feeds) (cells ∷ rows) = AreCellsOf n posts cells × AreCells n feeds rows

pub cells_more : {C : Type 0} (n : ℕ) (feeds : List (List (ℕ × Message))) (rows : Rows C) (posts : List (ℕ × Message)) (cells : List (List C)) → AreCells n feeds rows → AreCellsOf n posts cells → AreCells n (feeds ++ posts ∷ []) (rows ++ cells ∷ [])
cells_more n [] [] posts cells h own = (own, tt)
cells_more n [] (c ∷ rows) posts cells h own = absurd h
cells_more n (p ∷ feeds) [] posts cells h own = absurd h
cells_more n (p ∷ feeds) (c ∷ rows) posts cells h own = (h.0, cells_more n feeds rows posts cells h.1 own)

-- the cells of a feed stand at its place, if it is there
feed_cells : {C : Type 0} (n : ℕ) (feeds : List (List (ℕ × Message))) (rows : Rows C) (k : ℕ) → AreCells n feeds rows →
    ((slice_get feeds k ≡ None) × (slice_get rows k ≡ None)) ⊎ ((posts : List (ℕ × Message)) × (cells : List (List C)) × (slice_get feeds k ≡ Some posts) × (slice_get rows k ≡ Some cells) × AreCellsOf n posts cells)
feed_cells n [] [] k h = inl (refl, refl)
feed_cells n [] (c ∷ rows) k h = absurd h
feed_cells n (p ∷ feeds) [] k h = absurd h
feed_cells n (p ∷ feeds) (c ∷ rows) zero h = inr (p, c, refl, refl, h.0)
feed_cells n (p ∷ feeds) (c ∷ rows) (suc k) h = feed_cells n feeds rows k h.1

there : {X : Type 0} (xs : List X) (k : ℕ) → k < length xs → IsSome (slice_get xs k)
there [] k l = absurd (omega arith)
there (x ∷ xs) zero l = refl
there (x ∷ xs) (suc k) l = there xs k (omega arith)

inside : {X : Type 0} (xs : List X) (k : ℕ) → IsSome (slice_get xs k) → k < length xs
inside [] k h = absurd cc
inside (x ∷ xs) zero h = omega arith
inside (x ∷ xs) (suc k) h = let rest = inside xs k h in omega arith

place_there : {X : Type 0} (xs : List X) (place : ℕ) → (1 ≤ place) × (place ≤ length xs) → IsSome (from_one xs place)
place_there xs zero h = absurd (omega arith)
place_there xs (suc k) h = there xs k h.1

place_inside : {X : Type 0} (xs : List X) (place : ℕ) → IsSome (from_one xs place) → (1 ≤ place) × (place ≤ length xs)
place_inside xs zero h = absurd cc
place_inside xs (suc k) h = (omega arith, inside xs k h)

-- the cell of a post in the cells of a feed
post_cell : {C : Type 0} (n : ℕ) (posts : List (ℕ × Message)) (cells : List (List C)) (actor place : ℕ) → AreCellsOf n posts cells → IsSome (option_and_then (λ (own : List C). from_one own place) (slice_get cells actor)) ↔ ((actor < n) × ((1 ≤ place) × (place ≤ posts_to actor posts)))
post_cell {C} n posts cells actor place h = (forward (slice_get cells actor) refl, backward (slice_get cells actor) refl)
  where
    count : (row : List C) → slice_get cells actor ≡ Some row → actor < n → length row ≡ posts_to actor posts
    count row e l = let own = h.counts actor l in let is : Some (length row) ≡ Some (posts_to actor posts) = rw e at own in cc

    forward : (o : Option (List C)) → slice_get cells actor ≡ o → IsSome (option_and_then (λ (own : List C). from_one own place) (slice_get cells actor)) → (actor < n) × ((1 ≤ place) × (place ≤ posts_to actor posts))
    forward None e is = let none : IsSome {T = C} None = rw e at is in absurd cc
    forward (Some row) e is =
        let in_row : IsSome (from_one row place) = rw e at is in
        let within : actor < n = rw (← h.rows) (slice_get_within cells actor row e) in
        let (first, last) = place_inside row place in_row in
        (within, (first, rw (← count row e within) last))

    backward : (o : Option (List C)) → slice_get cells actor ≡ o → (actor < n) × ((1 ≤ place) × (place ≤ posts_to actor posts)) → IsSome (option_and_then (λ (own : List C). from_one own place) (slice_get cells actor))
    backward None e is = let own = h.counts actor is.0 in let none : None ≡ Some (posts_to actor posts) = rw e at own in absurd cc
    backward (Some row) e is = rw e (place_there row place (is.1.0, rw (count row e is.0) is.1.1))

pub has_asks : {C : Type 0} (n : ℕ) (feeds : List (List (ℕ × Message))) (rows : Rows C) → AreCells n feeds rows → (ask : Ask) → IsSome (item_of rows ask) ↔ IsPost feeds n ask
has_asks {C} n feeds rows h ask = by ask.feed refl
  where
    item : Option (List (List C)) → Option C
    item o = option_and_then (λ (own : List C). from_one own ask.place) (option_and_then (λ (own : List (List C)). slice_get own ask.actor) o)

    post : Option (List (ℕ × Message)) → Type 0
    post o = (ask.actor < n) × IsSomeAnd o (λ posts. (1 ≤ ask.place) × (ask.place ≤ posts_to ask.actor posts))

    at_feed : (k : ℕ) → ((slice_get feeds k ≡ None) × (slice_get rows k ≡ None)) ⊎ ((posts : List (ℕ × Message)) × (cells : List (List C)) × (slice_get feeds k ≡ Some posts) × (slice_get rows k ≡ Some cells) × AreCellsOf n posts cells)
        → IsSome (option_and_then (λ (own : List C). from_one own ask.place) (option_and_then (λ (own : List (List C)). slice_get own ask.actor) (slice_get rows k))) ↔ ((ask.actor < n) × IsSomeAnd (slice_get feeds k) (λ posts. (1 ≤ ask.place) × (ask.place ≤ posts_to ask.actor posts)))
    at_feed k (inl (f, r)) = rw (f, r) ((λ is. absurd cc), (λ is. absurd is.1))
    at_feed k (inr (posts, cells, f, r, own)) = rw (f, r) (post_cell n posts cells ask.actor ask.place own)

    by : (feed : ℕ) → ask.feed ≡ feed → IsSome (item_of rows ask) ↔ IsPost feeds n ask
    by zero e = rw e ((λ is. absurd cc), (λ is. absurd is.1))
    by (suc k) e = rw e (at_feed k (feed_cells n feeds rows k h))

-- ---- one post more

-- the cells of the posts in front of those that are left
abbrev pub HasCells : {C : Type 0} → ℕ → List (ℕ × Message) → List (ℕ × Message) → List (List C) → Type 0
HasCells n posts left rows = (done : List (ℕ × Message)) × (posts ≡ done ++ left) × AreCellsOf n done rows

-- the first post that is left is one to the actor, with some message
abbrev pub IsFirst : ℕ → List (ℕ × Message) → List (ℕ × Message) → Type 0
IsFirst target left rest = (message : Message) × (left ≡ (target, message) ∷ rest)

pub cells_none : {C : Type 0} (n : ℕ) (posts left : List (ℕ × Message)) (rows : List (List C)) → left ≡ posts → rows ≡ replicate n [] → HasCells n posts left rows
cells_none n posts left rows same none = ([], sym same, rw none (no_posts n))

pub cell_step : {C : Type 0} (n : ℕ) (posts left rest : List (ℕ × Message)) (rows : List (List C)) (target : ℕ) (row new : List C) (x : C) → HasCells n posts left rows → IsFirst target left rest
    → slice_get rows target ≡ Some row → new ≡ row ++ x ∷ [] → HasCells n posts rest (slice_set rows target new)
cell_step n posts left rest rows target row new x h first at more =
    let post : ℕ × Message = (target, first.0) in (
      h.0 ++ post ∷ [],
      one_done posts left rest (h.0) post (h.1) (first.1),
      cell_more n (h.0) rows post row new (h.2) at (ap length more ∙ length_push row x),
    )

pub pass_step : {C : Type 0} (n : ℕ) (posts left rest : List (ℕ × Message)) (rows : List (List C)) (target : ℕ) → HasCells n posts left rows → IsFirst target left rest → n ≤ target → HasCells n posts rest rows
pass_step n posts left rest rows target h first past =
    let post : ℕ × Message = (target, first.0) in
    (h.0 ++ post ∷ [], one_done posts left rest (h.0) post (h.1) (first.1), post_passed n (h.0) rows post (h.2) past)

pub cells_whole : {C : Type 0} (n : ℕ) (posts left : List (ℕ × Message)) (rows : List (List C)) → HasCells n posts left rows → left ≡ [] → AreCellsOf n posts rows
cells_whole n posts left rows h none =
    let whole : posts ≡ h.0 = h.1 ∙ ap (λ (ps : List (ℕ × Message)). h.0 ++ ps) none ∙ append-nil (h.0) in
    rw whole (h.2)

-- ---- one feed more, by its place

pub cells_step : {C : Type 0} (n : ℕ) (feeds : List (List (ℕ × Message))) (i : ℕ) (rows after : Rows C) (posts : List (ℕ × Message)) (cells : List (List C)) → AreCells n (take i feeds) rows → i < length feeds → posts ≡ get_or feeds i posts → AreCellsOf n posts cells → after ≡ rows ++ cells ∷ [] → AreCells n (take (i + 1) feeds) after
cells_step n feeds i rows after posts cells h l e own is =
    let next : take (i + 1) feeds ≡ take i feeds ++ posts ∷ [] = take_more feeds i posts l ∙ ap (λ (p : List (ℕ × Message)). take i feeds ++ p ∷ []) (sym e) in
    rw (next, is) (cells_more n (take i feeds) rows posts cells h own)

-- all posts
pub new_asks : {C : Type 0} (n : ℕ) (feeds items : List (List (ℕ × Message))) (i : ℕ) (rows : Rows C) → items ≡ feeds → length items ≤ i → AreCells n (take i items) rows → (ask : Ask) → IsSome (item_of rows ask) ↔ IsPost feeds n ask
new_asks n feeds items i rows same past h = has_asks n feeds rows (rw (take_all i items past, same) at h)
