-- Integers that are read, against their text.
use Rattle.std.proofs.Common.{◌≡◌, ◌≢◌, ◌∙◌, ℕ, zero, suc, ◌-◌, ◌^◌, ◌<◌, ◌≤◌, ◌==◌, Bool, true, false, List, [], ◌∷◌, drop, get_or, Option, None, Some, refl, ap, subst, ⊎_elim, arith}
use Rattle.std.specs.Prelude.{ℤ, pos, negsuc, if◌then◌else◌, FitsSigned}
use Rattle.std.specs.Int.{w64}
use Rattle.std.specs.Char.{is_ascii_digit}
use Rattle.std.specs.Fmt.{decimal, signed_decimal}
use Rattle.std.proofs.lemmas.Bool.{cases_Bool, eqb-true}
use Rattle.std.proofs.lemmas.Bool.Decides.{nat_tests}
use Rattle.std.proofs.lemmas.Fmt.{first_decimal}
use Rattle.join_base.specs.Integer.{integer_of, natural_of, negative, positive}
use Rattle.log_lines.specs.Gives.{where_true}
use Rattle.log_lines.specs.Numbers.{first_digit, int_of, is_plain}
use Rattle.log_lines.proofs.OptionLemmas.{else_is, where_is}
use Rattle.log_lines.proofs.NumberLemmas.{decimal_first, decimal_plain, first_is_digit, natural_again, natural_is, natural_text, not_zero, no_sign, plain_by, plain_zero}

signless : (text : List ℕ) → is_ascii_digit (get_or text 0 0) ≡ true → (get_or text 0 0 == 45) ≡ false
signless text is = grind (arith, nat_tests)

pub int_again : (z : ℤ) → FitsSigned w64 z → int_of (signed_decimal z) ≡ Some z
unfolding int_of
int_again (pos n) fits =
    let small : n < 2 ^ 63 = omega (arith, fits.sfits) in
    ap (λ (b : Bool). where_true b (integer_of (decimal n))) (decimal_plain n (omega arith))
    ∙ ap (λ (b : Bool). if b then negative (natural_of (2 ^ 63) (drop 1 (decimal n))) else positive (natural_of (2 ^ 63 - 1) (decimal n))) (signless (decimal n) (decimal_first n (omega arith)))
    ∙ ap positive (natural_again (2 ^ 63 - 1) n (omega arith) (omega arith))
int_again (negsuc n) fits =
    let small : n < 2 ^ 63 = omega (arith, fits.sfits) in
    let above : 48 < get_or (decimal (suc n)) 0 0 = first_decimal (suc n) (omega arith) (omega arith) in
    ap (λ (b : Bool). where_true b (integer_of (45 ∷ decimal (suc n)))) (plain_by (45 ∷ decimal (suc n)) (λ is. omega (arith, above, is)))
    ∙ ap negative (natural_again (2 ^ 63) (suc n) (omega arith) (omega arith))

pub record TakesInt (text : List ℕ) (z : ℤ) : Type 0 where
  pub fits : FitsSigned w64 z
  pub is : text ≡ signed_decimal z

negative_by : (text : List ℕ) (n : ℕ) (z : ℤ) → 1 ≤ n → n ≤ 2 ^ 63 → text ≡ 45 ∷ decimal n → negative (Some n) ≡ Some z → TakesInt text z
negative_by text zero z above small whole is = absurd (omega arith)
negative_by text (suc n) z above small whole is =
    let same : negsuc n ≡ z = cc in
    subst (TakesInt text) same (record { fits = record { sfits = omega arith }; is = whole })

-- a number behind the sign
negative_takes : (text : List ℕ) (found : Option ℕ) (z : ℤ) → (get_or text 0 0 == 45) ≡ true → is_plain text ≡ true → natural_of (2 ^ 63) (drop 1 text) ≡ found → negative found ≡ Some z → TakesInt text z
negative_takes [] found z sign plain told is = absurd cc
negative_takes (b ∷ bs) None z sign plain told is = absurd cc
negative_takes (b ∷ bs) (Some n) z sign plain told is =
    let natural = natural_is (2 ^ 63) bs n told in
    let first : first_digit (b ∷ bs) ≡ get_or bs 0 0 = ap (λ (t : Bool). if t then get_or bs 0 0 else b) sign in
    let some = natural.some in
    let other : get_or bs 0 0 ≢ 48 = λ zero. (let one = plain_zero (b ∷ bs) plain (first ∙ zero) in omega arith) in
    let whole = natural_text (2 ^ 63) bs n (omega arith) natural (λ zero. absurd (other zero)) in
    let above = not_zero n (λ zero. other (ap (λ (l : List ℕ). get_or l 0 0) whole ∙ zero)) in
    negative_by (b ∷ bs) n z above natural.small (ap (λ (c : ℕ). c ∷ bs) (eqb-true b 45 sign) ∙ ap (λ (l : List ℕ). 45 ∷ l) whole) is

positive_takes : (text : List ℕ) (found : Option ℕ) (z : ℤ) → is_plain text ≡ true → natural_of (2 ^ 63 - 1) text ≡ found → positive found ≡ Some z → TakesInt text z
positive_takes text None z plain told is = absurd cc
positive_takes text (Some n) z plain told is =
    let natural = natural_is (2 ^ 63 - 1) text n told in
    let first = no_sign text (first_is_digit text natural.digits natural.some) in
    let same : pos n ≡ z = cc in
    let small = natural.small in
    subst (TakesInt text) same (record {
      fits = record { sfits = omega arith };
      is = natural_text (2 ^ 63 - 1) text n (omega arith) natural (λ zero. plain_zero text plain (first ∙ zero));
    })

pub int_takes : (text : List ℕ) (z : ℤ) → int_of text ≡ Some z → TakesInt text z
unfolding int_of
int_takes text z is =
    let by = where_is (is_plain text) (integer_of text) z is in
    let one = else_is (get_or text 0 0 == 45) (negative (natural_of (2 ^ 63) (drop 1 text))) (positive (natural_of (2 ^ 63 - 1) text)) z by.is in
    ⊎_elim
    (λ (t : (get_or text 0 0 == 45) ≡ true). negative_takes text (natural_of (2 ^ 63) (drop 1 text)) z t by.test refl (one.yes t))
    (λ (f : (get_or text 0 0 == 45) ≡ false). positive_takes text (natural_of (2 ^ 63 - 1) text) z by.test refl (one.no f))
    (cases_Bool (get_or text 0 0 == 45))
