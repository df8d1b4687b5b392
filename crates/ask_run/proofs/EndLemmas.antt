-- Lists that shrink and grow at their end.
use Rattle.std.proofs.Common.{◌≡◌, ◌+◌, List, [], ◌∷◌, ◌++◌, All, length, ap, subst, arith}
use Rattle.std.proofs.lemmas.List.{length-append}
use Rattle.std.proofs.lemmas.List.Elements.{All-nil, All-cons, All-head, All-tail}

begin_all : {X : Type 0} (P : X → Type 0) (l : List X) (x : X) → All P (l ++ x ∷ []) → All P l
begin_all P [] x h = All-nil P
begin_all P (y ∷ l) x h = All-cons P y l (All-head P y (l ++ x ∷ []) h) (begin_all P l x (All-tail P y (l ++ x ∷ []) h))

end_all : {X : Type 0} (P : X → Type 0) (l : List X) (x : X) → All P (l ++ x ∷ []) → P x
end_all P [] x h = All-head P x [] h
end_all P (y ∷ l) x h = end_all P l x (All-tail P y (l ++ x ∷ []) h)

pub All-front : {X : Type 0} (P : X → Type 0) (xs ys : List X) (x : X) → xs ≡ ys ++ x ∷ [] → All P xs → All P ys
All-front P xs ys x is all = begin_all P ys x (subst (All P) is all)

pub All-last : {X : Type 0} (P : X → Type 0) (xs ys : List X) (x : X) → xs ≡ ys ++ x ∷ [] → All P xs → P x
All-last P xs ys x is all = end_all P ys x (subst (All P) is all)

pub push-length : {X : Type 0} (xs ys : List X) (x : X) → ys ≡ xs ++ x ∷ [] → length ys ≡ length xs + 1
push-length xs ys x is = omega (arith, ap length is, length-append xs (x ∷ []))
