-- The quoted text in front of some bytes, against the quoted form.
use Rattle.std.proofs.Common.{◌≡◌, ◌∙◌, ℕ, zero, suc, ◌<◌, ◌≤◌, ◌==◌, nat_le, Bool, true, false, List, [], ◌∷◌, ◌++◌, length, drop, get_or, Option, None, Some, refl, sym, ap, subst, ⊎_elim, append_assoc, arith}
use Rattle.std.specs.List.{flat_map}
use Rattle.std.specs.Str.{IsUtf8, is_utf8}
use Rattle.std.proofs.lemmas.Str.{IsUtf8-from_is_utf8, is_utf8-from_IsUtf8}
use Rattle.std.proofs.lemmas.Bool.{and_from, and_parts, cases_Bool, cond-false, false_from_ne_true, le-leb, leb-false, leb-true, true_from_ne_false}
use Rattle.std.proofs.lemmas.Bool.Decides.{nat_tests}
use Rattle.std.proofs.lemmas.List.Prefix.{front_rest}
use Rattle.join_base.specs.Quoted.{byte_form, quoted, Unquotes}
use Rattle.join_base.specs.Text.{IsText, is_text}
use Rattle.join_base.specs.Unquoted.{form_at, form_of}
use Rattle.join_base.proofs.QuotedLemmas.{form_at-form, front_is, quoted_is_prefix_free, quoted_split}
use Rattle.log_lines.specs.declared.fault.LineFault.{LineFault}
use Rattle.log_lines.specs.declared.fault.LineFault.TheVariants.{NoLine, NoMemory}
use Rattle.log_lines.specs.Gives.{◌>>=◌, Fails, where_true}
use Rattle.log_lines.specs.Quoting.{forms_at, quoted_at}
use Rattle.log_lines.proofs.OptionLemmas.{then_is, where_is, else_is}

quote_has_no_form : (text : List ℕ) (p : ℕ × ℕ) → (get_or text 0 0 == 34) ≡ true → form_at text ≡ Some p → ⊥
unfolding form_of
quote_has_no_form text p t e =
    let is : get_or text 0 0 ≡ 34 = grind (arith, nat_tests) in
    let none : Path (Option (ℕ × ℕ)) (form_at text) None = ap (λ n. form_of n (get_or text 1 0) (get_or text 2 0) (get_or text 3 0)) is in
    absurd cc

no_quote : (b : ℕ) (x : List ℕ) → (get_or (byte_form b ++ x) 0 0 == 34) ≡ false
no_quote b x =
    ⊎_elim
    (λ (t : (get_or (byte_form b ++ x) 0 0 == 34) ≡ true). absurd (quote_has_no_form (byte_form b ++ x) (b, length (byte_form b)) t (form_at-form b x)))
    (λ (f : (get_or (byte_form b ++ x) 0 0 == 34) ≡ false). f)
    (cases_Bool (get_or (byte_form b ++ x) 0 0 == 34))

-- one more byte in front
abbrev pub with_byte : ℕ → Option (List ℕ × List ℕ) → Option (List ℕ × List ℕ)
with_byte v found = found >>= λ p. Some (v ∷ p.0, p.1)

forms_step : (max : ℕ) (text : List ℕ) (v n : ℕ) → (get_or text 0 0 == 34) ≡ false → form_at text ≡ Some (v, n) → forms_at (suc max) text ≡ with_byte v (forms_at max (drop n text))
unfolding forms_at
forms_step max text v n f e =
    cond-false (get_or text 0 0 == 34) (Some ([], drop 1 text)) _ f
    ∙ ap (λ (o : Option (ℕ × ℕ)). o >>= λ form. forms_at max (drop form.1 text) >>= λ p. Some (form.0 ∷ p.0, p.1)) e

pub forms_again : (max : ℕ) (text rest : List ℕ) → length text ≤ max → forms_at max (flat_map byte_form text ++ 34 ∷ rest) ≡ Some (text, rest)
unfolding forms_at
forms_again zero [] rest short = refl
forms_again (suc max) [] rest short = refl
forms_again zero (b ∷ bs) rest short = absurd (omega arith)
forms_again (suc max) (b ∷ bs) rest short =
    let x : List ℕ = flat_map byte_form bs ++ 34 ∷ rest in
    let behind : drop (length (byte_form b)) (byte_form b ++ x) ≡ x = front_rest (byte_form b ++ x) (byte_form b) x refl in
    ap (forms_at (suc max)) (append_assoc (byte_form b) (flat_map byte_form bs) (34 ∷ rest))
    ∙ forms_step max (byte_form b ++ x) b (length (byte_form b)) (no_quote b x) (form_at-form b x)
    ∙ ap (λ (l : List ℕ). with_byte b (forms_at max l)) behind
    ∙ ap (with_byte b) (forms_again max bs rest (omega arith))

pub record TakesForms (max : ℕ) (text : List ℕ) (p : List ℕ × List ℕ) : Type 0 where
  pub short : length p.0 ≤ max
  pub split : text ≡ flat_map byte_form p.0 ++ 34 ∷ p.1

quote_here : (text : List ℕ) → (get_or text 0 0 == 34) ≡ true → text ≡ 34 ∷ drop 1 text
quote_here [] t = absurd cc
quote_here (b ∷ bs) t = let is : b ≡ 34 = grind (arith, nat_tests) in ap (λ (n : ℕ). n ∷ bs) is

ended : (max : ℕ) (text : List ℕ) (p : List ℕ × List ℕ) → (get_or text 0 0 == 34) ≡ true → Path (Option (List ℕ × List ℕ)) (Some ([], drop 1 text)) (Some p) → TakesForms max text p
ended max text p t e =
    let same : ([], drop 1 text) ≡ p = cc in
    subst (TakesForms max text) same (record { short = omega arith; split = quote_here text t })

forms_takes : (max : ℕ) (text : List ℕ) (p : List ℕ × List ℕ) → forms_at max text ≡ Some p → TakesForms max text p
unfolding forms_at
forms_takes zero text p is =
    ⊎_elim
    (λ (t : (get_or text 0 0 == 34) ≡ true). ended 0 text p t ((else_is (get_or text 0 0 == 34) (Some ([], drop 1 text)) None p is).yes t))
    (λ (f : (get_or text 0 0 == 34) ≡ false). let none = (else_is (get_or text 0 0 == 34) (Some ([], drop 1 text)) None p is).no f in absurd cc)
    (cases_Bool (get_or text 0 0 == 34))
forms_takes (suc max) text p is =
    let by = else_is (get_or text 0 0 == 34) (Some ([], drop 1 text)) (form_at text >>= λ form. forms_at max (drop form.1 text) >>= λ p. Some (form.0 ∷ p.0, p.1)) p is in
    ⊎_elim
    (λ (t : (get_or text 0 0 == 34) ≡ true). ended (suc max) text p t (by.yes t))
    (λ (f : (get_or text 0 0 == 34) ≡ false).
    let form = then_is (form_at text) (λ form. forms_at max (drop form.1 text) >>= λ p. Some (form.0 ∷ p.0, p.1)) p (by.no f) in
    let more = then_is (forms_at max (drop (form.first.1) text)) (λ q. Some (form.first.0 ∷ q.0, q.1)) p form.result in
    let rest = forms_takes max (drop (form.first.1) text) more.first more.is in
    let front = front_is text (form.first.0) (form.first.1) form.is in
    let same : (form.first.0 ∷ more.first.0, more.first.1) ≡ p = let e = more.result in cc in
    subst (TakesForms (suc max) text) same (record {
      short = let s = rest.short in omega arith;
      split = front.split ∙ ap (λ (l : List ℕ). byte_form (form.first.0) ++ l) rest.split ∙ sym (append_assoc (byte_form (form.first.0)) (flat_map byte_form (more.first.0)) (34 ∷ more.first.1));
    }))
    (cases_Bool (get_or text 0 0 == 34))

pub quoted_again : (max : ℕ) (bytes text rest : List ℕ) → Unquotes max bytes text rest → quoted_at max bytes ≡ Some (text, rest)
unfolding quoted_at
quoted_again max bytes text rest u =
    let valid : is_utf8 text ≡ true = is_utf8-from_IsUtf8 text u.is_text.utf8 in
    ap (quoted_at max) (u.split ∙ quoted_split text rest)
    ∙ ap (λ (o : Option (List ℕ × List ℕ)). o >>= λ p. where_true (is_utf8 p.0) (Some p)) (forms_again max text rest u.is_text.short)
    ∙ ap (λ (b : Bool). where_true b (Some (text, rest))) valid

pub quoted_takes : (max : ℕ) (bytes : List ℕ) (p : List ℕ × List ℕ) → quoted_at max bytes ≡ Some p → Unquotes max bytes p.0 p.1
unfolding quoted_at
quoted_takes max bytes p is =
    let by = else_is (get_or bytes 0 0 == 34) (forms_at max (drop 1 bytes) >>= λ p. where_true (is_utf8 p.0) (Some p)) None p is in
    ⊎_elim
    (λ (t : (get_or bytes 0 0 == 34) ≡ true).
    let forms = then_is (forms_at max (drop 1 bytes)) (λ p. where_true (is_utf8 p.0) (Some p)) p (by.yes t) in
    let valid = where_is (is_utf8 forms.first.0) (Some forms.first) p forms.result in
    let same : forms.first ≡ p = let e = valid.is in cc in
    let taken = forms_takes max (drop 1 bytes) forms.first forms.is in
    subst (λ (q : List ℕ × List ℕ). Unquotes max bytes q.0 q.1) same (record {
      is_text = record { utf8 = IsUtf8-from_is_utf8 (forms.first.0) valid.test; short = taken.short };
      split = quote_here bytes t ∙ ap (λ (l : List ℕ). 34 ∷ l) taken.split ∙ sym (quoted_split (forms.first.0) (forms.first.1));
    }))
    (λ (f : (get_or bytes 0 0 == 34) ≡ false). let none = by.no f in absurd cc)
    (cases_Bool (get_or bytes 0 0 == 34))

-- what a reader found, or that it found nothing
pub quoted_found : (max : ℕ) (bytes text rest : List ℕ) → Unquotes max (drop 0 bytes) text rest → quoted_at max bytes ≡ Some (text, rest)
quoted_found max bytes text rest u = quoted_again max bytes text rest u

pub quoted_none : (max : ℕ) (bytes : List ℕ) → ((text rest : List ℕ) → Unquotes max (drop 0 bytes) text rest → ⊥) → quoted_at max bytes ≡ None
quoted_none max bytes none = by (quoted_at max bytes) refl
  where
    by : (found : Option (List ℕ × List ℕ)) → quoted_at max bytes ≡ found → found ≡ None
    by None e = refl
    by (Some p) e = absurd (none (p.0) (p.1) (quoted_takes max bytes p e))

-- ---- texts without escapes

pub text_tested : (max : ℕ) (bytes : List ℕ) → IsText max bytes → is_text max bytes ≡ true
unfolding is_text
text_tested max bytes fits = and_from (nat_le (length bytes) max) (is_utf8 bytes) (le-leb (length bytes) max fits.short) (is_utf8-from_IsUtf8 bytes fits.utf8)

pub tested_text : (max : ℕ) (bytes : List ℕ) → is_text max bytes ≡ true → IsText max bytes
unfolding is_text
tested_text max bytes t =
    let parts = and_parts (nat_le (length bytes) max) (is_utf8 bytes) t in
    record { utf8 = IsUtf8-from_is_utf8 bytes parts.1; short = leb-true (length bytes) max parts.0 }

-- bytes that are refused for neither reason
pub accepted_text : (max : ℕ) (bytes : List ℕ) → ((IsUtf8 bytes → ⊥) → ⊥) → (IsUtf8 bytes × (max < length bytes) → ⊥) → is_text max bytes ≡ true
unfolding is_text
accepted_text max bytes valid short =
    let utf8 : is_utf8 bytes ≡ true = true_from_ne_false (is_utf8 bytes) (λ f. valid (λ u. let t = is_utf8-from_IsUtf8 bytes u in absurd cc)) in
    let fits : nat_le (length bytes) max ≡ true = true_from_ne_false (nat_le (length bytes) max) (λ f. short (IsUtf8-from_is_utf8 bytes utf8, leb-false (length bytes) max f)) in
    and_from (nat_le (length bytes) max) (is_utf8 bytes) fits utf8

pub refused_text : (max : ℕ) (bytes : List ℕ) → (IsText max bytes → ⊥) → is_text max bytes ≡ false
refused_text max bytes none = false_from_ne_true (is_text max bytes) (λ t. none (tested_text max bytes t))

-- what stands in front of a rest is the quoted form of these bytes, which are a text that fits or not
pub quoted_whether : (max : ℕ) (bytes text rest : List ℕ) → bytes ≡ quoted text ++ rest → quoted_at max bytes ≡ where_true (is_text max text) (Some (text, rest))
quoted_whether max bytes text rest split = by (quoted_at max bytes) refl (is_text max text) refl
  where
    by : (found : Option (List ℕ × List ℕ)) → quoted_at max bytes ≡ found → (b : Bool) → is_text max text ≡ b → found ≡ where_true b (Some (text, rest))
    by found e true t = sym e ∙ quoted_again max bytes text rest (record { is_text = tested_text max text t; split = split })
    by None e false f = refl
    by (Some p) e false f =
        let taken = quoted_takes max bytes p e in
        let same = quoted_is_prefix_free text (p.0) rest (p.1) (sym split ∙ taken.split) in
        let t = text_tested max text (subst (IsText max) (sym same.0) taken.is_text) in
        absurd cc

-- ---- what is known of such a text, of its form with what stands behind

none_with : {X Y : Type 0} (b : Bool) (x : X) (y : Y) → where_true b (Some x) ≡ None → where_true b (Some y) ≡ None
none_with true x y none = absurd cc
none_with false x y none = refl

some_with : {X Y : Type 0} (b : Bool) (x w : X) (y : Y) → where_true b (Some x) ≡ Some w → where_true {X = X × Y} b (Some (x, y)) ≡ Some (w, y)
some_with true x w y is = ap (λ o. o >>= λ v. Some (v, y)) is
some_with false x w y is = absurd cc

pub plain_gives : (max : ℕ) (bytes text rest words : List ℕ) → bytes ≡ quoted text ++ rest → where_true (is_text max text) (Some text) ≡ Some words → quoted_at max bytes ≡ Some (words, rest)
plain_gives max bytes text rest words split is = quoted_whether max bytes text rest split ∙ some_with (is_text max text) text words rest is

pub plain_fails : (max : ℕ) (bytes text rest : List ℕ) (fault : LineFault) → bytes ≡ quoted text ++ rest → Fails fault (where_true (is_text max text) (Some text)) → Fails fault (quoted_at max bytes)
plain_fails max bytes text rest NoLine split none = quoted_whether max bytes text rest split ∙ none_with (is_text max text) text (text, rest) none
plain_fails max bytes text rest NoMemory split none = tt
