-- The best of the candidates that a fact describes, and how it goes on.
use Rattle.std.proofs.Common.{◌≡◌, ◌⊎◌, inl, inr, List, ◌++◌, Bool, true, false, Option, Some, None, refl, sym}
use Rattle.std.specs.Prelude.{if◌then◌else◌}
use Rattle.std.specs.Ordering.{is_le}
use Rattle.std.proofs.lemmas.Cmp.{upto}
use Rattle.pattern_core.specs.declared.candidate.Candidate.{Candidate}
use Rattle.pattern_core.specs.Members.{IsIn}
use Rattle.pattern_core.specs.Key.{key_cmp}
use Rattle.pattern_core.specs.Choice.{lesser_of, least, IsBestOf, IsChoice}
use Rattle.pattern_core.proofs.MembersLemmas.{IsIn-append_left, IsIn-append_right, IsIn-append_cases}
use Rattle.pattern_core.proofs.ChoiceLemmas.{key_cmp_total, le_not_gt, not_le_back, least-IsChoice, least_from_IsChoice}

pub IsBestOf-same : (P Q : Candidate → Type 0) → ((c : Candidate) → P c → Q c) → ((c : Candidate) → Q c → P c) → (o : Option Candidate) → IsBestOf P o → IsBestOf Q o
IsBestOf-same P Q forth back None h = λ c q. h c (back c q)
IsBestOf-same P Q forth back (Some b) h = (forth b h.0, λ c q. h.1 c (back c q))

lesser_by : (P Q : Candidate → Type 0) (a b : Candidate) (t : Bool) → is_le (key_cmp a b) ≡ t → IsBestOf P (Some a) → IsBestOf Q (Some b) → IsBestOf (λ c. P c ⊎ Q c) (if t then Some a else Some b)
lesser_by P Q a b true e hp hq = (
  inl hp.0,
  λ c k. elim k [
    | inl p ↦ hp.1 c p
    | inr q ↦ upto key_cmp_total a b c (le_not_gt (key_cmp a b) e) (hq.1 c q)
  ],
)
lesser_by P Q a b false e hp hq = (
  inr hq.0,
  λ c k. elim k [
    | inl p ↦ upto key_cmp_total b a c (not_le_back a b e) (hp.1 c p)
    | inr q ↦ hq.1 c q
  ],
)

-- the lesser of two bests is the best of both
pub IsBestOf-lesser_of : (P Q : Candidate → Type 0) (a b : Option Candidate) → IsBestOf P a → IsBestOf Q b → IsBestOf (λ c. P c ⊎ Q c) (lesser_of a b)
IsBestOf-lesser_of P Q None b hp hq = IsBestOf-same Q (λ c. P c ⊎ Q c) (λ c q. inr q) (λ c k. elim k [ inl p ↦ absurd (hp c p) | inr q ↦ q ]) b hq
IsBestOf-lesser_of P Q (Some a) None hp hq = IsBestOf-same P (λ c. P c ⊎ Q c) (λ c p. inl p) (λ c k. elim k [ inl p ↦ p | inr q ↦ absurd (hq c q) ]) (Some a) hp
IsBestOf-lesser_of P Q (Some a) (Some b) hp hq = lesser_by P Q a b (is_le (key_cmp a b)) refl hp hq

IsChoice-from : (cs : List Candidate) (o : Option Candidate) → IsBestOf (λ c. IsIn c cs) o → IsChoice cs o
IsChoice-from cs None h = h
IsChoice-from cs (Some b) h = record { member = h.0; none_smaller = h.1 }

IsBestOf-from : (cs : List Candidate) (o : Option Candidate) → IsChoice cs o → IsBestOf (λ c. IsIn c cs) o
IsBestOf-from cs None h = h
IsBestOf-from cs (Some b) h = (h.member, h.none_smaller)

-- the best of the members is the least of the list
pub least_from_IsBestOf : (cs : List Candidate) (o : Option Candidate) → IsBestOf (λ c. IsIn c cs) o → o ≡ least cs
least_from_IsBestOf cs o h = least_from_IsChoice cs o (IsChoice-from cs o h)

pub least-append : (xs ys : List Candidate) → least (xs ++ ys) ≡ lesser_of (least xs) (least ys)
least-append xs ys =
    let both = IsBestOf-lesser_of (λ c. IsIn c xs) (λ c. IsIn c ys) (least xs) (least ys) (IsBestOf-from xs (least xs) (least-IsChoice xs)) (IsBestOf-from ys (least ys) (least-IsChoice ys)) in
    sym (least_from_IsBestOf (xs ++ ys) (lesser_of (least xs) (least ys))
    (IsBestOf-same (λ c. IsIn c xs ⊎ IsIn c ys) (λ c. IsIn c (xs ++ ys))
    (λ c k. elim k [ inl l ↦ IsIn-append_left c xs ys l | inr r ↦ IsIn-append_right c xs ys r ])
    (λ c h. IsIn-append_cases c xs ys h)
    (lesser_of (least xs) (least ys)) both))
