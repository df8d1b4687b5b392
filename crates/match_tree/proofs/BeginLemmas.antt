-- Routes that have been joined by steps to a number.
use Rattle.std.proofs.Common.{◌≡◌, inl, inr, ℕ, List, [], ◌∷◌, ◌++◌, sym, subst}
use Rattle.std.specs.Prelude.{Result, IfOk, OnOk}
use Rattle.std.specs.Result.{IsErrAnd}
use Rattle.std.proofs.lemmas.List.{map-append}
use Rattle.std.proofs.lemmas.Result.{err_from_is_err_and}
use Rattle.guard_eval.specs.Meaning.{Assignment}
use Rattle.pattern_core.specs.Members.{IsIn}
use Rattle.pattern_core.proofs.MembersLemmas.{IsIn-append_left, IsIn-append_right, IsIn-append_cases, IsIn-map, IsIn-map_from}
use Rattle.tree_rows.specs.Routes.{Route, step}
use Rattle.row_screens.specs.Offers.{Offered}
use Rattle.match_tree.specs.Growth.{Grows, steps_to}
use Rattle.match_tree.specs.Begins.{Begins}

module _ (n : ℕ) where
  pub begins_both : (hs ks : List ℕ) (xs ys xs' ys' : List Route) → Begins n hs xs xs' → Begins n ks ys ys' → Begins n (hs ++ ks) (xs ++ ys) (xs' ++ ys')
  begins_both hs ks xs ys xs' ys' g h =
      let begun : steps_to n (hs ++ ks) ≡ steps_to n hs ++ steps_to n ks = map-append (λ (p : ℕ). step p n ∷ []) hs ks in
      record {
        from = λ r m. elim (IsIn-append_cases r xs' ys' m) [
          | inl l ↦ elim (g.from r l) [
            | inl a ↦ inl (IsIn-append_left r xs ys a)
            | inr d ↦ inr (subst (IsIn r) (sym begun) (IsIn-append_left r (steps_to n hs) (steps_to n ks) d))
          ]
          | inr l ↦ elim (h.from r l) [
            | inl a ↦ inl (IsIn-append_right r xs ys a)
            | inr d ↦ inr (subst (IsIn r) (sym begun) (IsIn-append_right r (steps_to n hs) (steps_to n ks) d))
          ]
        ];
        keeps = λ r m. elim (IsIn-append_cases r xs ys m) [ inl l ↦ IsIn-append_left r xs' ys' (g.keeps r l) | inr l ↦ IsIn-append_right r xs' ys' (h.keeps r l) ];
        begins = λ r m. elim (IsIn-append_cases r (steps_to n hs) (steps_to n ks) (subst (IsIn r) begun m)) [ inl l ↦ IsIn-append_left r xs' ys' (g.begins r l) | inr l ↦ IsIn-append_right r xs' ys' (h.begins r l) ];
      }

  pub begins_nowhere : (xs : List Route) → Begins n [] xs xs
  begins_nowhere xs = record { from = λ r m. inl m; keeps = λ r m. m; begins = λ r m. absurd m }

  pub begins_step : (p : ℕ) → Begins n (p ∷ []) [] ((step p n ∷ []) ∷ [])
  begins_step p = record { from = λ r m. inr m; keeps = λ r m. absurd m; begins = λ r m. m }

  -- the same patterns in another order
  pub begins_here : (hs ks : List ℕ) (xs xs' : List Route) → ((p : ℕ) → IsIn p hs → IsIn p ks) → ((p : ℕ) → IsIn p ks → IsIn p hs) → Begins n hs xs xs' → Begins n ks xs xs'
  begins_here hs ks xs xs' to back g =
      let at : ℕ → Route = λ p. step p n ∷ [] in
      let move : (as' bs : List ℕ) → ((p : ℕ) → IsIn p as' → IsIn p bs) → (r : Route) → IsIn r (steps_to n as') → IsIn r (steps_to n bs) =
      λ as' bs f r m. let e = IsIn-map_from at r as' m in subst (λ (x : Route). IsIn x (steps_to n bs)) e.2 (IsIn-map at e.0 bs (f e.0 e.1))
      in
      record {
        from = λ r m. elim (g.from r m) [ inl a ↦ inl a | inr d ↦ inr (move hs ks to r d) ];
        keeps = g.keeps;
        begins = λ r m. g.begins r (move ks hs back r m);
      }

-- what has grown, and then begins
pub grows_begun : (o : Offered) (slots : Assignment) (here : List ℕ) (first then' now : List Route) → Grows o slots [] first then' → Begins o.number here then' now → Grows o slots here first now
grows_begun o slots here first then' now g h = record {
  from = λ r m. elim (h.from r m) [
    | inl a ↦ elim (g.from r a) [ inl x ↦ inl x | inr b ↦ elim b [ inl x ↦ inr (inl x) | inr x ↦ absurd x ] ]
    | inr k ↦ inr (inr k)
  ];
  keeps = λ r m. h.keeps r (g.keeps r m);
  adds = λ r m. h.keeps r (g.adds r m);
  begins = λ r m. h.begins r m;
}

-- where a `?` returns, nothing is said of a value
pub no_value : {T E : Type 0} (P : T → Type 0) (Q : E → Type 0) (r : Result T E) → IsErrAnd r Q → IfOk r P
no_value {T} {E} P Q r h = let p = err_from_is_err_and r h in subst (λ (x : Result T E). IfOk x P) (sym p.1) tt

pub no_ok : {T E : Type 0} (P : Type 0) (Q : E → Type 0) (r : Result T E) → IsErrAnd r Q → OnOk r P
no_ok {T} {E} P Q r h = let p = err_from_is_err_and r h in subst (λ (x : Result T E). OnOk x P) (sym p.1) tt
