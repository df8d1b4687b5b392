-- Numbers and integers that are read, against their decimal text.
use Rattle.std.proofs.Common.{◌≡◌, ◌≢◌, ◌∙◌, ℕ, zero, suc, ◌+◌, ◌-◌, ◌*◌, ◌^◌, ◌<◌, ◌≤◌, ◌==◌, nat_le, nat_lt, Bool, true, false, List, [], ◌∷◌, length, get_or, None, Some, refl, sym, ap, subst, arith, rules}
use Rattle.std.specs.Prelude.{not, ◌&&◌, ◌||◌, if◌then◌else◌}
use Rattle.std.specs.List.{list_all, fold}
use Rattle.std.specs.Char.{is_ascii_digit}
use Rattle.std.specs.Fmt.{decimal}
use Rattle.std.proofs.lemmas.Bool.{and_parts, leb-true, le-leb, lt-ltb, ltb-true, eqb-true}
use Rattle.std.proofs.lemmas.Bool.Decides.{nat_tests}
use Rattle.std.proofs.lemmas.Fmt.{digits_decimal, digits_value-decimal, decimal_digit, decimal_nonempty, decimal-digits_value, first_decimal}
use Rattle.std.proofs.lemmas.Str.Parse.{IsNumeralModel, numerals_by_fold}
use Rattle.join_base.specs.Integer.{are_digits, natural_of, value_of}
use Rattle.log_lines.specs.Gives.{where_true}
use Rattle.log_lines.specs.Cut.{lacks}
use Rattle.log_lines.specs.Numbers.{count_of, first_digit, is_plain, number_of}
use Rattle.log_lines.proofs.OptionLemmas.{where_is}

abbrev value_after : ℕ → List ℕ → ℕ
value_after n digits = fold (λ n d. n * 10 + (d - 48)) n digits

-- digits and their value, as the library knows them
own : IsNumeralModel (λ (ds : List ℕ). list_all is_ascii_digit ds ≡ true) (value_after 0)
own = numerals_by_fold _ (search rules) value_after (search rules)

pub decimal_digits : (n : ℕ) → n < 2 ^ 64 → list_all is_ascii_digit (decimal n) ≡ true
decimal_digits n small = digits_decimal own n small

pub first_is_digit : (ds : List ℕ) → list_all is_ascii_digit ds ≡ true → 0 < length ds → is_ascii_digit (get_or ds 0 0) ≡ true
first_is_digit [] all some = absurd (omega arith)
first_is_digit (d ∷ ds) all some = (and_parts (is_ascii_digit d) (list_all is_ascii_digit ds) all).0

-- the first byte of a number
pub decimal_first : (n : ℕ) → n < 2 ^ 64 → is_ascii_digit (get_or (decimal n) 0 0) ≡ true
decimal_first n small = first_is_digit (decimal n) (decimal_digits n small) (decimal_nonempty n small)

not_byte : (byte d : ℕ) → is_ascii_digit byte ≡ false → is_ascii_digit d ≡ true → not (d == byte) ≡ true
not_byte byte d other digit = grind (arith, nat_tests)

digits_lack : (byte : ℕ) (ds : List ℕ) → is_ascii_digit byte ≡ false → list_all is_ascii_digit ds ≡ true → lacks byte ds ≡ true
digits_lack byte [] other all = refl
digits_lack byte (d ∷ ds) other all =
    let parts = and_parts (is_ascii_digit d) (list_all is_ascii_digit ds) all in
    ap (λ (b : Bool). b && lacks byte ds) (not_byte byte d other parts.0) ∙ digits_lack byte ds other parts.1

pub decimal_lacks : (byte n : ℕ) → is_ascii_digit byte ≡ false → n < 2 ^ 64 → lacks byte (decimal n) ≡ true
decimal_lacks byte n other small = digits_lack byte (decimal n) other (decimal_digits n small)

-- ---- digits

pub record IsNatural (max : ℕ) (text : List ℕ) (n : ℕ) : Type 0 where
  pub some : 0 < length text
  pub digits : list_all is_ascii_digit text ≡ true
  pub value : value_of text ≡ n
  pub small : n ≤ max

pub natural_is : (max : ℕ) (text : List ℕ) (n : ℕ) → natural_of max text ≡ Some n → IsNatural max text n
natural_is max text n is =
    let by = where_is (are_digits text && nat_le (value_of text) max) (Some (value_of text)) n is in
    let parts = and_parts (are_digits text) (nat_le (value_of text) max) by.test in
    let digits = and_parts (nat_lt 0 (length text)) (list_all is_ascii_digit text) parts.0 in
    let value : value_of text ≡ n = let e = by.is in cc in
    let small : value_of text ≤ max = leb-true (value_of text) max parts.1 in
    record { some = ltb-true 0 (length text) digits.0; digits = digits.1; value = value; small = subst (λ (k : ℕ). k ≤ max) value small }

pub natural_by : (max : ℕ) (text : List ℕ) (n : ℕ) → IsNatural max text n → natural_of max text ≡ Some n
natural_by max text n is =
    ap (λ (b : Bool). if b && list_all is_ascii_digit text && nat_le (value_of text) max then Some (value_of text) else None) (lt-ltb 0 (length text) is.some)
    ∙ ap (λ (b : Bool). if b && nat_le (value_of text) max then Some (value_of text) else None) is.digits
    ∙ ap (λ (k : ℕ). if nat_le k max then Some k else None) is.value
    ∙ ap (λ (b : Bool). if b then Some n else None) (le-leb n max is.small)

pub natural_again : (max n : ℕ) → n ≤ max → n < 2 ^ 64 → natural_of max (decimal n) ≡ Some n
natural_again max n within small =
    natural_by max (decimal n) n (record { some = decimal_nonempty n small; digits = decimal_digits n small; value = digits_value-decimal own n small; small = within })

pub natural_text : (max : ℕ) (text : List ℕ) (n : ℕ) → max < 2 ^ 64 → IsNatural max text n → (get_or text 0 0 ≡ 48 → length text ≡ 1) → text ≡ decimal n
natural_text max text n low is plain =
    let value = is.value in
    let small = is.small in
    sym (decimal-digits_value own text is.digits is.some plain (omega arith)) ∙ ap decimal value

-- ---- numbers

-- a text of digits does not begin with the sign
pub no_sign : (text : List ℕ) → is_ascii_digit (get_or text 0 0) ≡ true → first_digit text ≡ get_or text 0 0
no_sign text is =
    let other : (get_or text 0 0 == 45) ≡ false = grind (arith, nat_tests) in
    ap (λ (b : Bool). if b then get_or text 1 0 else get_or text 0 0) other

pub plain_by : (text : List ℕ) → (first_digit text ≢ 48) → is_plain text ≡ true
plain_by text other =
    let test : (first_digit text == 48) ≡ false = grind (arith, nat_tests) in
    ap (λ (b : Bool). not b || length text == 1) test

plain_first : (a b : Bool) → (not a || b) ≡ true → a ≡ true → b ≡ true
plain_first true b is t = is
plain_first false b is t = absurd cc

pub eq_true : (a b : ℕ) → a ≡ b → (a == b) ≡ true
eq_true a b e = grind (arith, nat_tests)

pub plain_zero : (text : List ℕ) → is_plain text ≡ true → first_digit text ≡ 48 → length text ≡ 1
plain_zero text plain is = eqb-true (length text) 1 (plain_first (first_digit text == 48) (length text == 1) plain (eq_true (first_digit text) 48 is))

pub decimal_plain : (n : ℕ) → n < 2 ^ 64 → is_plain (decimal n) ≡ true
decimal_plain zero small = ap is_plain (decimal_digit 0 (omega arith))
decimal_plain (suc n) small =
    let first = no_sign (decimal (suc n)) (decimal_first (suc n) small) in
    let above : 48 < get_or (decimal (suc n)) 0 0 = first_decimal (suc n) (omega arith) small in
    plain_by (decimal (suc n)) (λ is. omega (arith, first, above, is))

pub number_again : (max n : ℕ) → n ≤ max → n < 2 ^ 64 → number_of max (decimal n) ≡ Some n
unfolding number_of
number_again max n within small = ap (λ (b : Bool). where_true b (natural_of max (decimal n))) (decimal_plain n small) ∙ natural_again max n within small

pub record TakesNumber (low max : ℕ) (text : List ℕ) (n : ℕ) : Type 0 where
  pub above : low ≤ n
  pub below : n ≤ max
  pub is : text ≡ decimal n

pub number_takes : (max : ℕ) (text : List ℕ) (n : ℕ) → max < 2 ^ 64 → number_of max text ≡ Some n → TakesNumber 0 max text n
unfolding number_of
number_takes max text n low is =
    let by = where_is (is_plain text) (natural_of max text) n is in
    let natural = natural_is max text n by.is in
    let first = no_sign text (first_is_digit text natural.digits natural.some) in
    record { above = omega arith; below = natural.small; is = natural_text max text n low natural (λ zero. plain_zero text by.test (first ∙ zero)) }

-- ---- numbers from 1 on

pub count_again : (max n : ℕ) → 1 ≤ n → n ≤ max → n < 2 ^ 64 → count_of max (decimal n) ≡ Some n
unfolding count_of
count_again max n some within small =
    let above : 48 < get_or (decimal n) 0 0 = first_decimal n some small in
    let test : (get_or (decimal n) 0 0 == 48) ≡ false = grind (arith, nat_tests) in
    ap (λ (b : Bool). where_true (not b) (natural_of max (decimal n))) test ∙ natural_again max n within small

pub not_zero : (n : ℕ) → get_or (decimal n) 0 0 ≢ 48 → 1 ≤ n
not_zero zero other = absurd (other (ap (λ (l : List ℕ). get_or l 0 0) (decimal_digit 0 (omega arith))))
not_zero (suc n) other = omega arith

not_eq : (a b : ℕ) → not (a == b) ≡ true → a ≢ b
not_eq a b t = grind (arith, nat_tests)

pub count_takes : (max : ℕ) (text : List ℕ) (n : ℕ) → max < 2 ^ 64 → count_of max text ≡ Some n → TakesNumber 1 max text n
unfolding count_of
count_takes max text n low is =
    let by = where_is (not (get_or text 0 0 == 48)) (natural_of max text) n is in
    let natural = natural_is max text n by.is in
    let other = not_eq (get_or text 0 0) 48 by.test in
    let whole = natural_text max text n low natural (λ zero. absurd (other zero)) in
    record { above = not_zero n (λ zero. other (ap (λ (l : List ℕ). get_or l 0 0) whole ∙ zero)); below = natural.small; is = whole }
