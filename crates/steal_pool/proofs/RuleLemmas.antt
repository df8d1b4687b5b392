-- Each step keeps the rule of a deque.
use Rattle.std.proofs.Common.{◌≡◌, ℕ, zero, suc, ◌+◌, ◌<◌, List, [], ◌∷◌, ◌++◌, ◌∙◌, refl, sym, ap, subst, arith}
use Rattle.std.proofs.Common.{length, set, append_assoc}
use Rattle.std.specs.Prelude.{All, sum_by}
use Rattle.std.proofs.lemmas.List.Sums.{sum_by-cons, sum_by-append}
use Rattle.std.proofs.lemmas.List.Elements.{All-nil, All-drop, All-push}
use lib.Seq.{drop-append_seam}
use mathlib.Core.Option.{some, some-injective, some-ne-none}
use lib.ListN.{get_elem?}
use Rattle.crossbeam_deque.specs.Tasks.{Admits}
use Rattle.steal_pool.specs.declared.view.DequeView.{DequeView}
use Rattle.steal_pool.specs.declared.pass.StealPass.{StealPass}
use Rattle.steal_pool.specs.View.{new_view, with_put, with_taken, with_none}
use Rattle.steal_pool.specs.Moments.{MayPut, MayTake, MayCount}
use Rattle.steal_pool.specs.Passes.{own_number, own_view, made_for}
use Rattle.steal_pool.specs.Taking.{MayTakeAny}
use Rattle.steal_pool.specs.Rule.{times, put_of, DequeRule}

-- a sum over all views, after the view of one pass has changed
sum_by_at : (f : DequeView → ℕ) (views : List DequeView) (pass : ℕ) (v w : DequeView)
    → get_elem? views pass ≡ some v → sum_by f (set views pass w) + f v ≡ sum_by f views + f w
sum_by_at f [] pass v w at = absurd (some-ne-none v (sym at))
sum_by_at f (u ∷ views) zero v w at =
    let same = ap f (some-injective u v at) in
    omega (arith, sum_by-cons f u views, sum_by-cons f w views, same)
sum_by_at f (u ∷ views) (suc pass) v w at =
    let rest = sum_by_at f views pass v w at in
    omega (arith, sum_by-cons f u views, sum_by-cons f u (set views pass w), rest)

times-append : (x : ℕ) (xs ys : List ℕ) → times x (xs ++ ys) ≡ times x xs + times x ys
times-append x xs ys = sum_by-append _ xs ys

-- another view with the same tickets put leaves what the owner put
put_stays : (views : List DequeView) (pass : ℕ) (v w : DequeView) → get_elem? views pass ≡ some v
    → w.put ≡ v.put → put_of (set views pass w) ≡ put_of views
put_stays [] pass v w at same = absurd (some-ne-none v (sym at))
put_stays (u ∷ views) zero v w at same = same ∙ sym (ap (λ (x : DequeView). x.put) (some-injective u v at))
put_stays (u ∷ views) (suc pass) v w at same = refl

-- and so does a view more
put_of-more : (views : List DequeView) (w : DequeView) → w.put ≡ [] → put_of (views ++ w ∷ []) ≡ put_of views
put_of-more [] w none = none
put_of-more (u ∷ views) w none = refl

pub may_put : (v : DequeView) (x : ℕ) → x < 32 → MayPut DequeRule x 0 v
may_put v x small waiting [] rule at = absurd (some-ne-none v (sym at))
may_put v x small waiting (u ∷ views) rule at =
    let w : DequeView = with_put (x ∷ []) v in
    let is = some-injective u v at in (
      w,
      record {
        gone = rule.gone;
        order =
            sym (append_assoc rule.gone waiting (x ∷ []))
            ∙ ap (λ l. l ++ x ∷ []) (rule.order ∙ ap (λ (y : DequeView). y.put) is);
        taken = λ y.
            let before = rule.taken y in
            let sum = sum_by_at (λ (z : DequeView). times y z.taken) (u ∷ views) 0 v w at in
            omega arith;
        small = All-push (λ k. k < 32) waiting x rule.small small;
      },
      refl,
    )

pub may_take : (pass : ℕ) (v : DequeView) → MayTake DequeRule pass v
may_take pass v xs waiting views any few rule at =
    let w : DequeView = with_taken xs v in (
      w,
      record {
        gone = rule.gone ++ xs;
        order = append_assoc rule.gone xs waiting ∙ rule.order ∙ sym (put_stays views pass v w at refl);
        taken = λ y.
            let before = rule.taken y in
            let sum = sum_by_at (λ (z : DequeView). times y z.taken) views pass v w at in
            let gone = times-append y rule.gone xs in
            let more = times-append y v.taken xs in
            omega arith;
        small =
            let behind = All-drop (λ k. k < 32) (length xs) (xs ++ waiting) rule.small in
            subst (All (λ k. k < 32)) (drop-append_seam xs waiting) behind;
      },
      refl,
    )

-- a view whose lists stay, and a new one
pub may_count : (pass : ℕ) (v : DequeView) → MayCount DequeRule pass v
may_count pass v waiting views rule at = record {
  gone = rule.gone;
  order =
      let more = put_of-more (set views pass (with_none v)) new_view refl in
      rule.order ∙ sym (more ∙ put_stays views pass v (with_none v) at refl);
  taken = λ y.
      let before = rule.taken y in
      let sum = sum_by_at (λ (z : DequeView). times y z.taken) views pass v (with_none v) at in
      let more = sum_by-append (λ (z : DequeView). times y z.taken) (set views pass (with_none v)) (new_view ∷ []) in
      omega arith;
  small = rule.small;
}

pub begins : DequeRule [] (new_view ∷ [])
begins = record { gone = []; order = refl; taken = λ y. refl; small = All-nil (λ k. k < 32) }

pub admits : Admits DequeRule new_view
admits waiting views rule = record {
  gone = rule.gone;
  order = rule.order ∙ sym (put_of-more views new_view refl);
  taken = λ y.
      let before = rule.taken y in
      let more = sum_by-append (λ (z : DequeView). times y z.taken) views (new_view ∷ []) in
      omega arith;
  small = rule.small;
}

-- the owner may put each ticket of its deque,
pub may_put_own : {P : Type 0} (p : StealPass P) (x : ℕ) → x < made_for p
    → MayPut DequeRule x (own_number p) (own_view p)
may_put_own p x small =
    let may = may_put (own_view p) x (let few = p.few in omega arith) in
    subst (λ n. MayPut DequeRule x n (own_view p)) (sym p.owner) may

-- and a pass may take whatever it finds
pub may_take_any : {P : Type 0} (p : StealPass P) → MayTakeAny DequeRule p
may_take_any p = record { own = may_take _ _; others = λ k d lt. may_take _ _; none = may_count _ _ }
