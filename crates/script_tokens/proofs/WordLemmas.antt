-- The bytes in front that pass a test, and how long a token is.
use Rattle.std.proofs.Common.{◌≡◌, ℕ, ◌<◌, ◌≤◌, Bool, true, false, not, suc, ◌&&◌, ◌==◌, List, [], ◌∷◌, take, length, get_or, refl, ◌∙◌, ⊎_elim, arith}
use Rattle.std.specs.Prelude.{codes, if◌then◌else◌}
use Rattle.std.specs.Str.{bytes_eq}
use Rattle.std.proofs.lemmas.Bool.{cases_Bool}
use Rattle.std.proofs.Math.Numerals.{one-add}
use Rattle.std.specs.List.{prefix_len, list_all}
use Rattle.std.specs.Char.{is_ascii_digit}
use Rattle.std.specs.Prelude.{ℤ, nat_le, nat_lt, Option, Some, None, MatchOption, ◌^◌, ◌-◌}
use Rattle.std.proofs.lemmas.Bool.Decides.{nat_tests}
use Rattle.std.proofs.lemmas.List.Sums.{prefix_len-le-length}
use Rattle.std.proofs.lemmas.List.{length-take}
use Rattle.script_tokens.specs.declared.token.Kind.TheVariants as kind
use Rattle.join_base.specs.Integer.{are_digits, value_of, positive, integer_of}
use Rattle.join_base.specs.Text.{begins_word, goes_on_word}
use Rattle.script_tokens.specs.declared.token.Kind.{Kind}
use Rattle.script_tokens.specs.Tokens.{word_kind, number_kind, is_blank, skip_from, skip, symbol_at, plain_at}
use Rattle.script_tokens.specs.Listed.{name_or}

all_in_front : (p : ℕ → Bool) (xs : List ℕ) → list_all p (take (prefix_len p xs) xs) ≡ true
all_in_front p [] = refl
all_in_front p (x ∷ xs) =
    ⊎_elim
    (λ (e : p x ≡ true). rw (e, one-add, e) (all_in_front p xs))
    (λ (e : p x ≡ false). rw e refl)
    (cases_Bool (p x))

pub word_in_front : (text : List ℕ) (n : ℕ) → n ≡ prefix_len goes_on_word text → list_all goes_on_word (take n text) ≡ true
word_in_front text n e = rw e (all_in_front goes_on_word text)

pub digits_in_front : (text : List ℕ) (n : ℕ) → n ≡ prefix_len is_ascii_digit text → 0 < n → are_digits (take n text) ≡ true
digits_in_front text n e some =
    let all : list_all is_ascii_digit (take n text) ≡ true = rw e (all_in_front is_ascii_digit text) in
    let within : n ≤ length text = omega (arith, e, prefix_len-le-length is_ascii_digit text) in
    rw all (grind (arith, nat_tests, length-take n text))

-- ---- the number of digits

not_minus : (digits : List ℕ) → are_digits digits ≡ true → (get_or digits 0 0 == 45) ≡ false
not_minus [] h = absurd cc
not_minus (d ∷ ds) h = grind (arith, nat_tests)

number_by : (v : ℕ) (found : Option ℤ) → found ≡ positive (if nat_le v (2 ^ 63 - 1) then Some v else None) → MatchOption found (number_kind v ≡ kind.Bad) (λ z. number_kind v ≡ kind.Number z)
number_by v found e =
    ⊎_elim
    (λ (t : nat_le v (2 ^ 63 - 1) ≡ true). let few : nat_lt v (2 ^ 63) ≡ true = grind (arith, nat_tests) in rw (e, t, few) refl)
    (λ (f : nat_le v (2 ^ 63 - 1) ≡ false). let many : nat_lt v (2 ^ 63) ≡ false = grind (arith, nat_tests) in rw (e, f, many) refl)
    (cases_Bool (nat_le v (2 ^ 63 - 1)))

pub number_is : (digits : List ℕ) (found : Option ℤ) → are_digits digits ≡ true → found ≡ integer_of digits
    → MatchOption found (number_kind (value_of digits) ≡ kind.Bad) (λ z. number_kind (value_of digits) ≡ kind.Number z)
number_is digits found h e = number_by (value_of digits) found (e ∙ rw (not_minus digits h, h) refl)

-- ---- a token takes at least a byte

each_some : (b : Bool) (p q : Kind × ℕ) → 0 < p.1 → 0 < q.1 → 0 < (if b then p else q).1
each_some true p q h k = h
each_some false p q h k = k

symbol_some : (a b : ℕ) → 0 < (symbol_at a b).1
unfolding symbol_at
symbol_some a b =
    let one : 0 < 1 = omega arith in
    let two : 0 < 2 = omega arith in
    each_some (a == 123) _ _ one (
    each_some (a == 125) _ _ one (
    each_some (a == 40) _ _ one (
    each_some (a == 41) _ _ one (
    each_some (a == 44) _ _ one (
    each_some (a == 58) _ _ one (
    each_some (a == 59) _ _ one (
    each_some (a == 43) _ _ one (
    each_some (a == 45) _ _ one (
    each_some (a == 38) _ _ (each_some (b == 38) _ _ two one) (
    each_some (a == 33) _ _ (each_some (b == 61) _ _ two one) (
    each_some (a == 60) _ _ (each_some (b == 61) _ _ two one) (
    each_some (a == 62) _ _ (each_some (b == 61) _ _ two one) (
    each_some (a == 124 && b == 124) _ _ two (
    each_some (a == 61 && b == 61) _ _ two one))))))))))))))

pub plain_some : (text : List ℕ) → 0 < length text → 0 < (plain_at text).1
unfolding plain_at
plain_some [] h = absurd (omega arith)
plain_some (x ∷ xs) h =
    ⊎_elim
    (λ (e : begins_word x ≡ true). rw e (omega arith))
    (λ (e : begins_word x ≡ false). rw e (⊎_elim
    (λ (d : is_ascii_digit x ≡ true). rw d (omega arith))
    (λ (d : is_ascii_digit x ≡ false). rw d (symbol_some x (get_or (x ∷ xs) 1 0)))
    (cases_Bool (is_ascii_digit x))))
    (cases_Bool (begins_word x))

-- ---- a name is all of its token

each_named : (b : Bool) (word : List ℕ) (p q : Kind) → name_or word p ≡ word → name_or word q ≡ word → name_or word (if b then p else q) ≡ word
each_named true word p q h k = h
each_named false word p q h k = k

pub word_named : (w : List ℕ) → name_or w (word_kind w) ≡ w
unfolding word_kind
word_named w =
    each_named (bytes_eq w (codes "message")) w _ _ refl (
    each_named (bytes_eq w (codes "actor")) w _ _ refl (
    each_named (bytes_eq w (codes "when")) w _ _ refl (
    each_named (bytes_eq w (codes "if")) w _ _ refl (
    each_named (bytes_eq w (codes "print")) w _ _ refl (
    each_named (bytes_eq w (codes "post")) w _ _ refl (
    each_named (bytes_eq w (codes "stop")) w _ _ refl (
    each_named (bytes_eq w (codes "int")) w _ _ refl (
    each_named (bytes_eq w (codes "text")) w _ _ refl (
    each_named (bytes_eq w (codes "within")) w _ _ refl (
    each_named (bytes_eq w (codes "reply")) w _ _ refl (
    each_named (bytes_eq w (codes "_")) w _ _ refl (
    each_named (nat_le (length w) 64) w _ _ refl refl))))))))))))

-- the bytes of a token, by its length
abbrev named_by : List ℕ → Kind × ℕ → Type 0
named_by text p = name_or (take p.1 text) p.0 ≡ take p.1 text

each_front : (b : Bool) (text : List ℕ) (p q : Kind × ℕ) → named_by text p → named_by text q → named_by text (if b then p else q)
each_front true text p q h k = h
each_front false text p q h k = k

pub symbol_named : (a b : ℕ) (text : List ℕ) → named_by text (symbol_at a b)
unfolding symbol_at
symbol_named a b text =
    each_front (a == 123) text _ _ refl (
    each_front (a == 125) text _ _ refl (
    each_front (a == 40) text _ _ refl (
    each_front (a == 41) text _ _ refl (
    each_front (a == 44) text _ _ refl (
    each_front (a == 58) text _ _ refl (
    each_front (a == 59) text _ _ refl (
    each_front (a == 43) text _ _ refl (
    each_front (a == 45) text _ _ refl (
    each_front (a == 38) text _ _ (each_front (b == 38) text _ _ refl refl) (
    each_front (a == 33) text _ _ (each_front (b == 61) text _ _ refl refl) (
    each_front (a == 60) text _ _ (each_front (b == 61) text _ _ refl refl) (
    each_front (a == 62) text _ _ (each_front (b == 61) text _ _ refl refl) (
    each_front (a == 124 && b == 124) text _ _ refl (
    each_front (a == 61 && b == 61) text _ _ refl refl))))))))))))))

-- ---- what separates tokens

both_fit : (t : Bool) (xs ys : List ℕ) (n : ℕ) → length xs ≤ n → length ys ≤ n → length (if t then xs else ys) ≤ n
both_fit true xs ys n h k = h
both_fit false xs ys n h k = k

skip_from_shorter : (inside : Bool) (text : List ℕ) → length (skip_from inside text) ≤ length text
unfolding skip_from
skip_from_shorter true [] = omega arith
skip_from_shorter false [] = omega arith
skip_from_shorter true (b ∷ bs) = omega (arith, skip_from_shorter (not (b == 10)) bs)
skip_from_shorter false (b ∷ bs) =
    let inside = skip_from_shorter true bs in
    let outside = skip_from_shorter false bs in
    both_fit (b == 47 && get_or bs 0 0 == 47) (skip_from true bs) (if is_blank b then skip_from false bs else b ∷ bs) (suc (length bs)) (omega arith)
    (both_fit (is_blank b) (skip_from false bs) (b ∷ bs) (suc (length bs)) (omega arith) (omega arith))

pub skip_shorter : (text : List ℕ) → length (skip text) ≤ length text
skip_shorter text = skip_from_shorter false text
