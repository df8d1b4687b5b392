-- Facts on helpers that are split off and joined, and on lists that shrink at their end.
use Rattle.std.proofs.Common.{◌≡◌, ℕ, ◌+◌, List, [], ◌∷◌, ◌++◌, All, length, map, reverse, sym, ap, ◌∙◌, subst, arith, append_assoc}
use Rattle.std.specs.Prelude.{Option, Some, option_to_list}
use Rattle.std.proofs.lemmas.List.{length-append, map-append, reverse-append}
use Rattle.std.proofs.lemmas.List.Elements.{All-nil, All-cons, All-head, All-tail}
use Rattle.turn_lock.specs.View.{new_view, with_one_more, joined}
use Rattle.actor_pool.specs.declared.helper.Helper.{Helper}
use Rattle.actor_pool.specs.declared.pool.Pool.{Pool}
use Rattle.actor_pool.specs.Beside.{Fitting, FitsSeen}
use Rattle.actor_pool.specs.Helpers.{SeatView, IsHelperOf, IsFirstHelper, HelperGoesOn, seat_of}
use Rattle.pool_run.specs.declared.parts.HelperBack.{HelperBack}
use Rattle.pool_run.specs.Parts.{IsBack, IsSpare}

pub split-tags : (v w : SeatView) → w ≡ with_one_more v → w.tags ≡ v.tags
split-tags v w is = ap (λ (x : SeatView). x.tags) is

pub joined-tags : (v u w : SeatView) → w ≡ joined v u → w.tags ≡ v.tags
joined-tags v u w is = ap (λ (x : SeatView). x.tags) is

pub spare-of : (p : Pool) (v : SeatView) (other : Helper) → IsHelperOf p other → seat_of other ≡ new_view v → IsSpare p other
spare-of p v other own is = record { own = own; other = ap (λ (x : SeatView). x.role) is }

pub first-of : (p : Pool) (n m : ℕ) (h : Helper) → n ≡ m → IsFirstHelper p n h → IsFirstHelper p m h
first-of p n m h same first = subst (λ (k : ℕ). IsFirstHelper p k h) same first

-- one more is out
pub first-more : (p : Pool) (out n m : ℕ) (h : Helper) → n + 1 ≡ m → IsFirstHelper p ((out + n) + 1) h → IsFirstHelper p (out + m) h
first-more p out n m h same first = first-of p ((out + n) + 1) (out + m) h (omega (arith, same)) first

All-begin : {X : Type 0} (P : X → Type 0) (l : List X) (x : X) → All P (l ++ x ∷ []) → All P l
All-begin P [] x h = All-nil P
All-begin P (y ∷ l) x h = All-cons P y l (All-head P y (l ++ x ∷ []) h) (All-begin P l x (All-tail P y (l ++ x ∷ []) h))

All-end : {X : Type 0} (P : X → Type 0) (l : List X) (x : X) → All P (l ++ x ∷ []) → P x
All-end P [] x h = All-head P x [] h
All-end P (y ∷ l) x h = All-end P l x (All-tail P y (l ++ x ∷ []) h)

pub push-length : {X : Type 0} (xs ys : List X) (x : X) → ys ≡ xs ++ x ∷ [] → length ys ≡ length xs + 1
push-length xs ys x is = omega (arith, ap length is, length-append xs (x ∷ []))

pub All-front : {X : Type 0} (P : X → Type 0) (xs ys : List X) (x : X) → xs ≡ ys ++ x ∷ [] → All P xs → All P ys
All-front P xs ys x is all = All-begin P ys x (subst (All P) is all)

pub All-last : {X : Type 0} (P : X → Type 0) (xs ys : List X) (x : X) → xs ≡ ys ++ x ∷ [] → All P xs → P x
All-last P xs ys x is all = All-end P ys x (subst (All P) is all)

-- the last of what waits is done
pub more-done : {X Y : Type 0} (f : Y → X) (all l ys : List X) (done now : List Y) (y : Y) → map f done ++ reverse l ≡ all → l ≡ ys ++ f y ∷ [] → now ≡ done ++ y ∷ [] → map f now ++ reverse ys ≡ all
more-done f all l ys done now y is last more =
    ap (λ (m : List _). m ++ reverse ys) (ap (map f) more ∙ map-append f done (y ∷ []))
    ∙ append_assoc (map f done) (f y ∷ []) (reverse ys)
    ∙ ap (λ m. map f done ++ m) (sym (ap reverse last ∙ reverse-append ys (f y ∷ []))) ∙ is

pub last-of : {X : Type 0} (l ys : List X) (r : Option X) (x : X) → l ≡ ys ++ option_to_list r → r ≡ Some x → l ≡ ys ++ x ∷ []
last-of l ys r x is some = is ∙ ap (λ q. ys ++ option_to_list q) some

-- what a thread gives back: a helper that went on, with what stands beside it
pub back-of : {B : Type 0} (p : Pool) (fits : Fitting B) (given : Helper) (back : HelperBack B) → IsSpare p given → HelperGoesOn p given back.helper → FitsSeen fits (seat_of back.helper) back.beside → IsBack p fits given back
back-of p fits given back spare on seen = record { spare = record { own = on.own; other = on.role ∙ spare.other }; tags = on.tags; seen = seen }
