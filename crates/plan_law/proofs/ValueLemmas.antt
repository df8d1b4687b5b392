-- The text of a number and of a quoted text.
use Rattle.std.proofs.Common.{◌≡◌, ◌∙◌, ℕ, ◌+◌, ◌-◌, ◌*◌, ◌<◌, ◌≤◌, ◌^◌, Bool, true, false, nat_le, ltb, List, [], ◌∷◌, ◌++◌, refl, sym, subst, ⊎_elim, arith, rules}
use Rattle.std.specs.Prelude.{ℤ, pos}
use Rattle.std.specs.Char.{is_ascii_digit}
use Rattle.std.specs.Fmt.{decimal, signed_decimal}
use Rattle.std.specs.List.{list_all, flat_map, fold}
use Rattle.std.specs.Str.{IsUtf8}
use lib.Utf8.{encode, encodes, scalar, scalars}
use Rattle.std.proofs.lemmas.Bool.{cases_Bool}
use Rattle.std.proofs.lemmas.Bool.Decides.{nat_tests}
use Rattle.std.proofs.lemmas.Fmt.{digits_decimal, digits_value-decimal, decimal_nonempty}
use Rattle.std.proofs.lemmas.List.{append-nil}
use Rattle.std.proofs.lemmas.List.Concat.{flat_map-append}
use Rattle.std.proofs.lemmas.Str.{IsUtf8-append, IsUtf8-nil}
use Rattle.std.proofs.lemmas.Str.Parse.{IsNumeralModel, numerals_by_fold}
use Rattle.join_base.specs.Integer.{value_of}
use Rattle.join_base.specs.Quoted.{byte_form, quoted}
use Rattle.join_base.specs.Text.{IsText}
use Rattle.script_tokens.specs.declared.token.Kind.TheVariants as kind
use Rattle.script_tokens.specs.Tokens.{skip_from}
use Rattle.plan_law.proofs.CutLemmas.{first_true, second_true, is_below, is_quoted, token_in_front, utf8_by_test}
use Rattle.plan_law.proofs.LexedLemmas.{IsNumber}
use Rattle.plan_law.proofs.TokenLemmas.{digits_open, digits_write}
use Rattle.plan_law.proofs.WriteLemmas.{Writes, Ends, Opens}

-- ---- numbers

abbrev value_after : ℕ → List ℕ → ℕ
value_after n digits = fold (λ n d. n * 10 + (d - 48)) n digits

-- digits and their value, as the library knows them
own : IsNumeralModel (λ (ds : List ℕ). list_all is_ascii_digit ds ≡ true) (value_after 0)
own = numerals_by_fold _ (search rules) value_after (search rules)

value_decimal : (v : ℕ) → v < 2 ^ 63 → value_of (decimal v) ≡ v
value_decimal v small = digits_value-decimal own v (omega arith)

natural_writes : (v : ℕ) → v < 2 ^ 63 → Writes Ends (decimal v) (kind.Number (pos v) ∷ [])
natural_writes v small =
    let value = value_decimal v small in
    rw value at (digits_write (decimal v) (digits_decimal own v (omega arith)) (decimal_nonempty v (omega arith)) (rw value small))

-- a number that was read
pub number_writes : (z : ℤ) → IsNumber z → Writes Ends (signed_decimal z) (kind.Number z ∷ [])
number_writes z h = rw (h.is) (natural_writes h.value h.small)

pub number_opens : (z : ℤ) → IsNumber z → Opens (signed_decimal z)
number_opens z h = rw (h.is) (digits_open (decimal h.value) (digits_decimal own h.value (omega (arith, h.small))) (decimal_nonempty h.value (omega (arith, h.small))))

-- ---- quoted texts

-- the form of a byte below 128 has only such bytes, and any other byte is its own form
form_low : (b : ℕ) → b < 128 → list_all is_below (byte_form b) ≡ true
form_low b low = grind (arith, nat_tests)

form_high : (b : ℕ) → 128 ≤ b → byte_form b ≡ b ∷ []
form_high b high = grind (arith, nat_tests)

is_high : ℕ → Bool
is_high b = nat_le 128 b

-- the forms of bytes from 128 on are these bytes
forms_high : (bs : List ℕ) → list_all is_high bs ≡ true → flat_map byte_form bs ≡ bs
unfolding is_high
forms_high [] h = refl
forms_high (b ∷ bs) h =
    let high : 128 ≤ b = grind (arith, nat_tests) in
    rw (form_high b high, forms_high bs (second_true (is_high b) (list_all is_high bs) h))

encode_high : (c : ℕ) → ltb c 128 ≡ false → list_all is_high (encode c) ≡ true
unfolding is_high encode
encode_high c e = grind (arith, nat_tests)

char_utf8 : (c : ℕ) → scalar c ≡ true → IsUtf8 (flat_map byte_form (encode c))
unfolding encode
char_utf8 c s =
    ⊎_elim
    (λ (e : ltb c 128 ≡ true). let low : c < 128 = grind (arith, nat_tests) in rw e (rw (append-nil (byte_form c)) (utf8_by_test (byte_form c) (form_low c low))))
    (λ (e : ltb c 128 ≡ false). (c ∷ [], (rw s refl, append-nil (encode c) ∙ sym (forms_high (encode c) (encode_high c e)))))
    (cases_Bool (ltb c 128))

-- the forms of the bytes of characters are text
forms_utf8 : (cs : List ℕ) → scalars cs ≡ true → IsUtf8 (flat_map byte_form (encodes cs))
forms_utf8 [] s = IsUtf8-nil
forms_utf8 (c ∷ cs) s =
    rw (flat_map-append byte_form (encode c) (encodes cs))
    (IsUtf8-append (flat_map byte_form (encode c)) (flat_map byte_form (encodes cs)) (char_utf8 c (first_true (scalar c) (scalars cs) s)) (forms_utf8 cs (second_true (scalar c) (scalars cs) s)))

-- the quoted form of a text is a text
quoted_utf8 : (text : List ℕ) → IsUtf8 text → IsUtf8 (quoted text)
quoted_utf8 text h =
    let forms : IsUtf8 (flat_map byte_form text) = subst (λ (bs : List ℕ). IsUtf8 (flat_map byte_form bs)) h.1.1 (forms_utf8 h.0 h.1.0) in
    IsUtf8-append (34 ∷ []) (flat_map byte_form text ++ 34 ∷ []) (utf8_by_test (34 ∷ []) refl) (IsUtf8-append (flat_map byte_form text) (34 ∷ []) forms (utf8_by_test (34 ∷ []) refl))

-- a quoted text in front of any text
pub quoted_writes : {P : List ℕ → Type 0} (text : List ℕ) → IsText 120 text → Writes P (quoted text) (kind.Words text ∷ [])
unfolding skip_from
quoted_writes text h = record {
  before = λ rest more p cut.
      token_in_front (quoted text) rest (kind.Words text) more (quoted_utf8 text h.utf8) (omega arith) refl (is_quoted (quoted text ++ rest) rest (kind.Words text) refl (record { is_text = h; split = refl })) refl cut;
}
