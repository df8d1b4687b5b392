-- Where a text is cut.
use Rattle.std.proofs.Common.{◌≡◌, ◌∙◌, ℕ, zero, suc, get_or, ◌+◌, ◌<◌, ◌≤◌, Bool, true, false, cond, List, [], ◌∷◌, ◌++◌, length, take, drop, Option, None, Some, refl, sym, ap, subst, arith, nat_lt, ⊎_elim, ◌⊎◌, inl, inr}
use Rattle.std.specs.Prelude.{not, ◌&&◌, ◌==◌, if◌then◌else◌}
use Rattle.std.specs.List.{position_or_len}
use Rattle.std.specs.Option.{option_map}
use Rattle.std.specs.Str.{bytes_eq}
use Rattle.std.proofs.lemmas.Bool.{cases_Bool, cases_lt, lt-ltb, le-ltb, eqb-true}
use Rattle.std.proofs.lemmas.Bool.Decides.{nat_tests}
use Rattle.std.proofs.lemmas.List.{take-append-drop}
use Rattle.std.proofs.lemmas.Slice.Eq.{bytes_eq-Decides}
use Rattle.std.proofs.Math.Seq.{drop-append_seam, take-append_seam}
use Rattle.log_lines.specs.Cut.{after, cut, lacks}
use Rattle.log_lines.proofs.OptionLemmas.{else_is}

-- ---- cuts by recursion

abbrev pub parts_at : List ℕ → ℕ → List ℕ × List ℕ
parts_at text i = (take i text, drop (i + 1) text)

cut_found : (byte : ℕ) (text : List ℕ) (k : ℕ) → position_or_len (λ (b : ℕ). b == byte) text ≡ k → k < length text → cut byte text ≡ Some (parts_at text k)
unfolding cut
cut_found byte text k is within =
    ap (λ (n : ℕ). option_map (parts_at text) (cond (nat_lt n (length text)) (Some n) None)) is
    ∙ ap (λ (b : Bool). option_map (parts_at text) (cond b (Some k) None)) (lt-ltb k (length text) within)

cut_nowhere : (byte : ℕ) (text : List ℕ) → length text ≤ position_or_len (λ (b : ℕ). b == byte) text → cut byte text ≡ None
unfolding cut
cut_nowhere byte text past = ap (λ (b : Bool). option_map (parts_at text) (cond b (Some (position_or_len (λ (b : ℕ). b == byte) text)) None)) (le-ltb (position_or_len (λ (b : ℕ). b == byte) text) (length text) past)

-- the first place of a byte, where it was found in another way
first_place : (byte : ℕ) (text : List ℕ) (k : ℕ) → k < length text → (get_or text k 0 == byte) ≡ true → ((j : ℕ) → j < k → (get_or text j 0 == byte) ≡ true → ⊥) → position_or_len (λ (b : ℕ). b == byte) text ≡ k
first_place byte [] k within here before = absurd (omega (arith, within))
first_place byte (x ∷ xs) zero within here before = ap (λ (b : Bool). cond (not b) (1 + position_or_len (λ (b : ℕ). b == byte) xs) 0) here
first_place byte (x ∷ xs) (suc k) within here before =
    let other : (x == byte) ≡ false = ⊎_elim (λ (t : (x == byte) ≡ true). absurd (before 0 (omega arith) t)) (λ (f : (x == byte) ≡ false). f) (cases_Bool (x == byte)) in
    let next : 1 + k ≡ suc k = omega arith in
    ap (λ (b : Bool). cond (not b) (1 + position_or_len (λ (b : ℕ). b == byte) xs) 0) other
    ∙ ap (λ (n : ℕ). 1 + n) (first_place byte xs k (omega (arith, within)) here (λ j less. before (suc j) (omega (arith, less))))
    ∙ next

no_place : (byte : ℕ) (text : List ℕ) → ((j : ℕ) → j < length text → (get_or text j 0 == byte) ≡ true → ⊥) → length text ≤ position_or_len (λ (b : ℕ). b == byte) text
no_place byte [] none = omega arith
no_place byte (x ∷ xs) none =
    let other : (x == byte) ≡ false = ⊎_elim (λ (t : (x == byte) ≡ true). absurd (none 0 (omega arith) t)) (λ (f : (x == byte) ≡ false). f) (cases_Bool (x == byte)) in
    let more = no_place byte xs (λ j less. none (suc j) (omega (arith, less))) in
    let next : position_or_len (λ (b : ℕ). b == byte) (x ∷ xs) ≡ 1 + position_or_len (λ (b : ℕ). b == byte) xs = ap (λ (b : Bool). cond (not b) (1 + position_or_len (λ (b : ℕ). b == byte) xs) 0) other in
    rw next (omega (arith, more))

pub cut_first : (byte : ℕ) (text : List ℕ) (k : ℕ) → k < length text → (get_or text k 0 == byte) ≡ true → ((j : ℕ) → j < k → (get_or text j 0 == byte) ≡ true → ⊥) → cut byte text ≡ Some (parts_at text k)
cut_first byte text k within here before = cut_found byte text k (first_place byte text k within here before) within

pub cut_not : (byte : ℕ) (text : List ℕ) → ((j : ℕ) → j < length text → (get_or text j 0 == byte) ≡ true → ⊥) → cut byte text ≡ None
cut_not byte text none = cut_nowhere byte text (no_place byte text none)

-- the byte in front
abbrev pub with_front_byte : ℕ → Option (List ℕ × List ℕ) → Option (List ℕ × List ℕ)
with_front_byte x found = option_map (λ p. (x ∷ p.0, p.1)) found

abbrev pub cut_by : Bool → ℕ → List ℕ → Option (List ℕ × List ℕ) → Option (List ℕ × List ℕ)
cut_by true x xs found = Some ([], xs)
cut_by false x xs found = with_front_byte x found

module _ (byte x : ℕ) (xs : List ℕ) where
  abbrev pub place : ℕ
  place = position_or_len (λ (b : ℕ). b == byte) xs

  place_next : (x == byte) ≡ false → position_or_len (λ (b : ℕ). b == byte) (x ∷ xs) ≡ suc place
  place_next is =
      let one : 1 + place ≡ suc place = omega arith in
      ap (λ (b : Bool). cond (not b) (1 + place) 0) is ∙ one

  cut_at : (b : Bool) → (x == byte) ≡ b → (place < length xs) ⊎ (length xs ≤ place) → cut byte (x ∷ xs) ≡ cut_by b x xs (cut byte xs)
  cut_at true is within = cut_found byte (x ∷ xs) 0 (ap (λ (b : Bool). cond (not b) (1 + place) 0) is) (omega arith)
  cut_at false is (inl within) =
      let next : suc place + 1 ≡ suc (place + 1) = omega arith in
      cut_found byte (x ∷ xs) (suc place) (place_next is) (omega arith)
      ∙ ap (λ (n : ℕ). Some (x ∷ take place xs, drop n (x ∷ xs))) next
      ∙ ap (with_front_byte x) (sym (cut_found byte xs place refl within))
  cut_at false is (inr past) =
      let after_all = place_next is in
      cut_nowhere byte (x ∷ xs) (rw after_all (omega arith)) ∙ ap (with_front_byte x) (sym (cut_nowhere byte xs past))

  pub cut-cons : cut byte (x ∷ xs) ≡ cut_by (x == byte) x xs (cut byte xs)
  cut-cons = cut_at (x == byte) refl (cases_lt place (length xs))

pub cut-nil : (byte : ℕ) → cut byte [] ≡ None
unfolding cut
cut-nil byte = refl

-- ---- what a cut gives

pub first_lacks : (a b : Bool) → (not a && b) ≡ true → a ≡ false
first_lacks true b is = absurd cc
first_lacks false b is = refl

pub rest_lacks : (a b : Bool) → (not a && b) ≡ true → b ≡ true
rest_lacks true b is = absurd cc
rest_lacks false b is = is

pub itself : (a : ℕ) → (a == a) ≡ true
itself a = grind (arith, nat_tests)

-- a byte that the front lacks parts it from what follows
pub cut_again : (byte : ℕ) (front rest : List ℕ) → lacks byte front ≡ true → cut byte (front ++ byte ∷ rest) ≡ Some (front, rest)
cut_again byte [] rest none = cut-cons byte byte rest ∙ ap (λ (b : Bool). cut_by b byte rest (cut byte rest)) (itself byte)
cut_again byte (x ∷ xs) rest none =
    cut-cons byte x (xs ++ byte ∷ rest)
    ∙ ap (λ (b : Bool). cut_by b x (xs ++ byte ∷ rest) (cut byte (xs ++ byte ∷ rest))) (first_lacks (x == byte) (lacks byte xs) none)
    ∙ ap (with_front_byte x) (cut_again byte xs rest (rest_lacks (x == byte) (lacks byte xs) none))

pub record Takes (byte : ℕ) (text : List ℕ) (p : List ℕ × List ℕ) : Type 0 where
  pub split : text ≡ p.0 ++ byte ∷ p.1
  pub none : lacks byte (p.0) ≡ true

-- what a cut is, at each of its answers
abbrev pub IsCut : ℕ → List ℕ → Option (List ℕ × List ℕ) → Type 0
IsCut byte text None = lacks byte text ≡ true
IsCut byte text (Some p) = Takes byte text p

cut_more : (byte x : ℕ) (xs : List ℕ) (b : Bool) (found : Option (List ℕ × List ℕ)) → (x == byte) ≡ b → IsCut byte xs found → IsCut byte (x ∷ xs) (cut_by b x xs found)
cut_more byte x xs true found is h = record { split = ap (λ (n : ℕ). n ∷ xs) (eqb-true x byte is); none = refl }
cut_more byte x xs false None is h = ap (λ (b : Bool). not b && lacks byte xs) is ∙ h
cut_more byte x xs false (Some p) is h = record { split = ap (λ (l : List ℕ). x ∷ l) h.split; none = ap (λ (b : Bool). not b && lacks byte (p.0)) is ∙ h.none }

pub cut_is : (byte : ℕ) (text : List ℕ) → IsCut byte text (cut byte text)
cut_is byte [] = subst (IsCut byte []) (sym (cut-nil byte)) refl
cut_is byte (x ∷ xs) = subst (IsCut byte (x ∷ xs)) (sym (cut-cons byte x xs)) (cut_more byte x xs (x == byte) (cut byte xs) refl (cut_is byte xs))

pub cut_takes : (byte : ℕ) (text : List ℕ) (p : List ℕ × List ℕ) → cut byte text ≡ Some p → Takes byte text p
cut_takes byte text p is = subst (IsCut byte text) is (cut_is byte text)

pub cut_none : (byte : ℕ) (text : List ℕ) → cut byte text ≡ None → lacks byte text ≡ true
cut_none byte text is = subst (IsCut byte text) is (cut_is byte text)

pub lacks_both : (byte : ℕ) (front back : List ℕ) → lacks byte front ≡ true → lacks byte back ≡ true → lacks byte (front ++ back) ≡ true
lacks_both byte [] back first second = second
lacks_both byte (x ∷ xs) back first second =
    ap (λ (b : Bool). not b && lacks byte (xs ++ back)) (first_lacks (x == byte) (lacks byte xs) first) ∙ lacks_both byte xs back (rest_lacks (x == byte) (lacks byte xs) first) second

-- ---- words in front

pub after_takes : (words text rest : List ℕ) → after words text ≡ Some rest → text ≡ words ++ rest
unfolding after
after_takes words text rest is =
    let by = else_is (bytes_eq (take (length words) text) words) (Some (drop (length words) text)) None rest is in
    ⊎_elim
    (λ (t : bytes_eq (take (length words) text) words ≡ true).
    let front : take (length words) text ≡ words = (bytes_eq-Decides (take (length words) text) words).0 t in
    let back : drop (length words) text ≡ rest = let e = by.yes t in cc in
    sym (take-append-drop (length words) text) ∙ ap (λ (l : List ℕ). l ++ drop (length words) text) front ∙ ap (λ (l : List ℕ). words ++ l) back)
    (λ (f : bytes_eq (take (length words) text) words ≡ false). let e = by.no f in absurd cc)
    (cases_Bool (bytes_eq (take (length words) text) words))

pub after_again : (words rest : List ℕ) → after words (words ++ rest) ≡ Some rest
unfolding after
after_again words rest =
    let front : take (length words) (words ++ rest) ≡ words = take-append_seam words rest in
    let back : drop (length words) (words ++ rest) ≡ rest = drop-append_seam words rest in
    let whole : bytes_eq (take (length words) (words ++ rest)) words ≡ true = (bytes_eq-Decides (take (length words) (words ++ rest)) words).1 front in
    ap (λ (b : Bool). if b then Some (drop (length words) (words ++ rest)) else None) whole ∙ ap (λ (l : List ℕ). Some l) back
