-- What steps ask and tell, whatever the rule.
use Rattle.std.proofs.Common.{◌≡◌, ℕ, zero, suc, ◌+◌, ◌<◌, ◌≤◌, List, [], ◌∷◌, ◌∙◌, refl}
use Rattle.std.proofs.Common.{length, map, set, get_or, take, arith, sym, ap, subst}
use Rattle.std.specs.Prelude.{All, Some}
use Rattle.std.proofs.lemmas.List.{length-map, get_or-map, map-set, take_all}
use Rattle.std.proofs.lemmas.List.Elements.{All-nil, All-cons, All-more}
use Rattle.std.proofs.lemmas.Option.{slice_get-get_or}
use Rattle.crossbeam_deque.specs.Tasks.{Takes}
use Rattle.steal_pool.specs.declared.view.DequeView.{DequeView}
use Rattle.steal_pool.specs.declared.thief.Thief.{Thief}
use Rattle.steal_pool.specs.View.{with_taken}
use Rattle.steal_pool.specs.Moments.{MayTake, WasAt, WasEmpty}
use Rattle.steal_pool.specs.Passes.{thief_number, thief_view}
use Rattle.steal_pool.specs.Taking.{MaySteal, TakesOne}

-- a take tells what stood in front
pub take_tells : (holds : List ℕ → List DequeView → Type 0) (pass : ℕ) (v : DequeView) → MayTake holds pass v
    → Takes holds pass v 1 (λ xs w. (w ≡ with_taken xs v) × WasAt holds v xs)
take_tells holds pass v may xs rest views any few held at =
    let step = may xs rest views any few held at in
    (step.0, step.1, (step.2, (rest, views, held, (pass, at))))

-- the ticket was in the first deque
pub takes_first : (holds : List ℕ → List DequeView → Type 0) (x : ℕ) (v w : DequeView) (views : List DequeView)
    → w ≡ with_taken (x ∷ []) v → WasAt holds v (x ∷ []) → TakesOne holds x (v ∷ views) (w ∷ views)
takes_first holds x v w views taken front = record {
  place = zero;
  known = v;
  known_there = refl;
  front = front;
  earlier = All-nil (WasEmpty holds);
  taken = ap (λ u. u ∷ views) taken;
}

-- a deque more stands in front, which was empty, and of which the pass knows what it knew
pub takes_later : (holds : List ℕ → List DequeView → Type 0) (x : ℕ) (v w : DequeView) (olds nows : List DequeView)
    → w ≡ v → WasEmpty holds v → TakesOne holds x olds nows → TakesOne holds x (v ∷ olds) (w ∷ nows)
takes_later holds x v w olds nows same empty one = record {
  place = suc one.place;
  known = one.known;
  known_there = one.known_there;
  front = one.front;
  earlier = All-cons (WasEmpty holds) v (take one.place olds) empty one.earlier;
  taken = ap (λ u. u ∷ nows) same ∙ ap (λ l. v ∷ l) one.taken;
}

pub empty_all : (holds : List ℕ → List DequeView → Type 0) (views : List DequeView) (i : ℕ) → length views ≤ i
    → All (WasEmpty holds) (take i views) → All (WasEmpty holds) views
empty_all holds views i all before = subst (All (WasEmpty holds)) (take_all i views all) before

module _ {P : Type 0} (holds : List ℕ → List DequeView → Type 0) where
  pub may_steal_again : (t u : Thief P) → thief_number u ≡ thief_number t → thief_view u ≡ thief_view t
      → MaySteal holds t → MaySteal holds u
  may_steal_again t u number view may =
      let again = subst (λ v. MayTake holds (thief_number t) v) (sym view) may in
      subst (λ n. MayTake holds n (thief_view u)) (sym number) again

  -- the same f of the elements at a place, where it is the same of the lists
  same_at : {A : Type 0} (f : Thief P → A) (olds nows : List (Thief P)) (k : ℕ) (d : Thief P) → k < length nows
      → map f nows ≡ map f olds → get_or (map f olds) k (f d) ≡ f (get_or nows k d)
  same_at f olds nows k d lt same = ap (λ l. get_or l k (f d)) (sym same) ∙ get_or-map f nows k d (f d) lt

  pub may_steal_all : (olds nows : List (Thief P)) → map thief_number nows ≡ map thief_number olds
      → map thief_view nows ≡ map thief_view olds → All (MaySteal holds) olds → All (MaySteal holds) nows
  may_steal_all olds nows numbers views may k d lt =
      let long = length-map nows thief_number in
      let short = length-map olds thief_number in
      let same = ap length numbers in
      let lt' : k < length olds = omega arith in
      may_steal_again (get_or olds k d) (get_or nows k d)
      (sym (same_at thief_number olds nows k d lt numbers) ∙ get_or-map thief_number olds k d (thief_number d) lt')
      (sym (same_at thief_view olds nows k d lt views) ∙ get_or-map thief_view olds k d (thief_view d) lt')
      (may k d lt')

  -- a ticket was stolen from the deque at the place i
  pub takes_one : (olds nows : List (Thief P)) (i x : ℕ) (d u : Thief P) → i < length nows
      → map thief_view nows ≡ map thief_view olds → All (WasEmpty holds) (take i (map thief_view olds))
      → thief_view u ≡ with_taken (x ∷ []) (thief_view (get_or nows i d))
      → WasAt holds (thief_view (get_or nows i d)) (x ∷ [])
      → TakesOne holds x (map thief_view olds) (map thief_view (set nows i u))
  takes_one olds nows i x d u lt views earlier taken front =
      let long = length-map nows thief_view in
      let same = ap length views in
      let lt' : i < length (map thief_view olds) = omega arith in
      record {
        place = i;
        known = thief_view (get_or nows i d);
        known_there =
            slice_get-get_or (map thief_view olds) i (thief_view d) lt'
            ∙ ap Some (same_at thief_view olds nows i d lt views);
        front = front;
        earlier = earlier;
        taken =
            map-set thief_view nows i u ∙ ap (λ l. set l i (thief_view u)) views
            ∙ ap (λ w. set (map thief_view olds) i w) taken;
      }

  -- and it was found empty
  pub empty_more : (olds nows : List (Thief P)) (i : ℕ) (d : Thief P) → i < length nows
      → map thief_view nows ≡ map thief_view olds → All (WasEmpty holds) (take i (map thief_view olds))
      → WasEmpty holds (thief_view (get_or nows i d)) → All (WasEmpty holds) (take (i + 1) (map thief_view olds))
  empty_more olds nows i d lt views before empty =
      let long = length-map nows thief_view in
      let same = ap length views in
      let lt' : i < length (map thief_view olds) = omega arith in
      let here = subst (WasEmpty holds) (sym (same_at thief_view olds nows i d lt views)) empty in
      All-more (WasEmpty holds) (map thief_view olds) i (thief_view d) lt' before here
