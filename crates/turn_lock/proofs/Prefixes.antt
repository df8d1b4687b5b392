-- Beginnings of one list, and the longer and the shorter of two.
use Rattle.std.proofs.Common.{◌≡◌, ℕ, zero, suc, ◌<◌, ◌≤◌, cond, leb, Bool, true, false, List, [], ◌∷◌, length, get_or, sym, refl, ap, ◌∙◌, arith, ◌⊎◌, inl, inr, ⊎_elim, true≢false}
use mathlib.Core.List.{IsPrefix}
use Rattle.std.proofs.lemmas.Bool.Decides.{leb_tells}
use base.Growing.{prefix_refl}
use Rattle.turn_lock.specs.View.{longer, shorter, each_longer, each_shorter, blank}

abbrev tail_of : {E : Type 0} → List E → List E
tail_of [] = []
tail_of (x ∷ xs) = xs

abbrev head_or : {E : Type 0} → E → List E → E
head_or d [] = d
head_or d (x ∷ xs) = x

pub nothing_begins : {E : Type 0} → (b : List E) → IsPrefix [] b
nothing_begins b = (b, refl)

pub begins_longer : {E : Type 0} → (a b l : List E) → IsPrefix a l → IsPrefix b l → length a ≤ length b → IsPrefix a b
begins_longer [] b l h k le = (b, refl)
begins_longer (x ∷ a) [] l h k le = absurd (omega arith)
begins_longer (x ∷ a) (y ∷ b) l h k le = let e : x ≡ y = ap (head_or x) (h.1 ∙ sym k.1) in let t = begins_longer a b (tail_of l) (h.0, ap tail_of h.1) (k.0, ap tail_of k.1) (omega arith) in (t.0, λ i. e i ∷ t.1 i)

pick_one : {A : Type 0} (P : A → Type 0) (b : Bool) (x y : A) → P x → P y → P (cond b x y)
pick_one P true x y h k = h
pick_one P false x y h k = k

pub longer_begins : {E : Type 0} → (a b l : List E) → IsPrefix a l → IsPrefix b l → IsPrefix (longer a b) l
longer_begins a b l h k = pick_one (λ (x : List _). IsPrefix x l) (leb (length a) (length b)) b a k h

pub shorter_begins : {E : Type 0} → (a b l : List E) → IsPrefix a l → IsPrefix b l → IsPrefix (shorter a b) l
shorter_begins a b l h k = pick_one (λ (x : List _). IsPrefix x l) (leb (length a) (length b)) a b h k

longer_none : {E : Type 0} → (a : List E) → a ≡ longer a []
longer_none [] = refl
longer_none (x ∷ a) = keeps (leb_tells (suc (length a)) 0)
  where
    keeps : ((leb (suc (length a)) 0 ≡ true) × (suc (length a) ≤ 0)) ⊎ ((leb (suc (length a)) 0 ≡ false) × (0 < suc (length a))) → x ∷ a ≡ longer (x ∷ a) []
    keeps (inl t) = let h = t.1 in absurd (omega arith)
    keeps (inr t) = ap (λ (b : Bool). cond b [] (x ∷ a)) (sym t.0)

none_longer : {E : Type 0} → (b : List E) → b ≡ longer [] b
none_longer b = keeps (leb_tells 0 (length b))
  where
    keeps : ((leb 0 (length b) ≡ true) × (0 ≤ length b)) ⊎ ((leb 0 (length b) ≡ false) × (length b < 0)) → b ≡ longer [] b
    keeps (inl t) = ap (λ (c : Bool). cond c b []) (sym t.0)
    keeps (inr t) = let h = t.1 in absurd (omega arith)

shorter_none : {E : Type 0} → (a : List E) → [] ≡ shorter a []
shorter_none [] = refl
shorter_none (x ∷ a) = keeps (leb_tells (suc (length a)) 0)
  where
    keeps : ((leb (suc (length a)) 0 ≡ true) × (suc (length a) ≤ 0)) ⊎ ((leb (suc (length a)) 0 ≡ false) × (0 < suc (length a))) → [] ≡ shorter (x ∷ a) []
    keeps (inl t) = let h = t.1 in absurd (omega arith)
    keeps (inr t) = ap (λ (b : Bool). cond b (x ∷ a) []) (sym t.0)

none_shorter : {E : Type 0} → (b : List E) → [] ≡ shorter [] b
none_shorter b = keeps (leb_tells 0 (length b))
  where
    keeps : ((leb 0 (length b) ≡ true) × (0 ≤ length b)) ⊎ ((leb 0 (length b) ≡ false) × (length b < 0)) → [] ≡ shorter [] b
    keeps (inl t) = ap (λ (c : Bool). cond c [] b) (sym t.0)
    keeps (inr t) = let h = t.1 in absurd (omega arith)

pub longer_at : {E : Type 0} → (a b : List (List E)) (j : ℕ) → get_or (each_longer a b) j [] ≡ longer (get_or a j []) (get_or b j [])
longer_at [] b j = none_longer (get_or b j [])
longer_at (x ∷ a) [] j = longer_none (get_or (x ∷ a) j [])
longer_at (x ∷ a) (y ∷ b) zero = refl
longer_at (x ∷ a) (y ∷ b) (suc j) = longer_at a b j

pub shorter_at : {E : Type 0} → (a b : List (List E)) (j : ℕ) → get_or (each_shorter a b) j [] ≡ shorter (get_or a j []) (get_or b j [])
shorter_at [] b j = none_shorter (get_or b j [])
shorter_at (x ∷ a) [] zero = shorter_none x
shorter_at (x ∷ a) [] (suc j) = shorter_at a [] j
shorter_at (x ∷ a) (y ∷ b) zero = refl
shorter_at (x ∷ a) (y ∷ b) (suc j) = shorter_at a b j

pub length-each_longer : {E : Type 0} → (a b : List (List E)) → length a ≡ length b → length (each_longer a b) ≡ length a
length-each_longer [] b e = sym e
length-each_longer (x ∷ a) [] e = refl
length-each_longer (x ∷ a) (y ∷ b) e = let h = length-each_longer a b (omega arith) in omega arith

pub length-each_shorter : {E : Type 0} → (a b : List (List E)) → length (each_shorter a b) ≡ length a
length-each_shorter [] b = refl
length-each_shorter (x ∷ a) [] = ap (λ (k : ℕ). suc k) (length-each_shorter a [])
length-each_shorter (x ∷ a) (y ∷ b) = ap (λ (k : ℕ). suc k) (length-each_shorter a b)

pub blank_at : {A B : Type 0} → (l : List A) (j : ℕ) → get_or (blank {B = B} l) j [] ≡ []
blank_at [] j = refl
blank_at (x ∷ l) zero = refl
blank_at (x ∷ l) (suc j) = blank_at l j

pub length-blank : {A : Type 0} → (B : Type 0) (l : List A) → length (blank {B = B} l) ≡ length l
length-blank B [] = refl
length-blank B (x ∷ l) = ap (λ (k : ℕ). suc k) (length-blank B l)

pub get_or_past : {A : Type 0} → (l : List A) (j : ℕ) (d : A) → length l ≤ j → get_or l j d ≡ d
get_or_past [] j d h = refl
get_or_past (x ∷ l) zero d h = absurd (omega arith)
get_or_past (x ∷ l) (suc j) d h = get_or_past l j d (omega arith)

order_of : (b : Bool) (m n : ℕ) → leb m n ≡ b → cond b (m ≤ n) (n ≤ m)
order_of true m n e = ⊎_elim (λ (t : (leb m n ≡ true) × (m ≤ n)). t.1) (λ (t : (leb m n ≡ false) × (n < m)). absurd (true≢false (sym e ∙ t.0))) (leb_tells m n)
order_of false m n e = ⊎_elim (λ (t : (leb m n ≡ true) × (m ≤ n)). absurd (true≢false (sym t.0 ∙ e))) (λ (t : (leb m n ≡ false) × (n < m)). let h = t.1 in omega arith) (leb_tells m n)

short_by : {E : Type 0} → (b : Bool) (x y : List E) → cond b (length x ≤ length y) (length y ≤ length x) → length (cond b x y) ≤ length (cond b y x)
short_by true x y h = h
short_by false x y h = h

-- the shorter is no longer than the longer
pub shorter_short : {E : Type 0} → (a b : List E) → length (shorter a b) ≤ length (longer a b)
shorter_short a b = short_by (leb (length a) (length b)) a b (order_of (leb (length a) (length b)) (length a) (length b) refl)

begin_by : {E : Type 0} → (b : Bool) (x y : List E) → IsPrefix (cond b x y) (cond b y x) → IsPrefix x (cond b y x) × IsPrefix y (cond b y x)
begin_by true x y h = (h, prefix_refl y)
begin_by false x y h = (prefix_refl x, h)

-- each of two begins the longer, where the shorter does
pub both_begin : {E : Type 0} → (a b : List E) → IsPrefix (shorter a b) (longer a b) → IsPrefix a (longer a b) × IsPrefix b (longer a b)
both_begin a b h = begin_by (leb (length a) (length b)) a b h
