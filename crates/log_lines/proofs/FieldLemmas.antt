-- The values of a message that are read, against their text.
use Rattle.std.proofs.Common.{◌≡◌, ◌∙◌, ℕ, suc, ◌==◌, Bool, true, false, List, [], ◌∷◌, ◌++◌, length, map, Option, Some, refl, sym, ap, subst, append_assoc, append-nil, arith}
use Rattle.std.specs.Prelude.{ℤ, pos, negsuc, not, ◌&&◌}
use Rattle.std.specs.List.{AllByRecursion}
use Rattle.std.specs.Char.{is_ascii_digit}
use Rattle.std.specs.Fmt.{decimal, signed_decimal}
use Rattle.std.proofs.lemmas.Bool.{and_parts, eqb-true}
use Rattle.join_base.specs.Quoted.{quoted}
use Rattle.join_base.specs.declared.message.Sort.{Sort}
use Rattle.join_base.specs.declared.message.Sort.TheVariants as sort
use Rattle.join_base.specs.declared.message.Value.{Value}
use Rattle.join_base.specs.declared.message.Value.TheVariants as value
use Rattle.guard_eval.specs.Meaning.{is_of_sort}
use Rattle.fair_semantics.specs.Step.{are_of_sorts}
use Rattle.fair_semantics.specs.Fits.{ValueFits}
use Rattle.arrival_log.specs.LogText.{comma_joined, value_text}
use Rattle.log_lines.specs.Gives.{◌>>=◌, where_true}
use Rattle.log_lines.specs.Cut.{after, cut, lacks}
use Rattle.log_lines.specs.Numbers.{int_of}
use Rattle.log_lines.specs.Quoting.{quoted_at}
use Rattle.log_lines.specs.Messages.{closed_int, closed_value, closed_words, closing, fields_of, values_at}
use Rattle.log_lines.proofs.OptionLemmas.{then_is, where_is}
use Rattle.log_lines.proofs.CutLemmas.{after_again, after_takes, cut_again, cut_takes}
use Rattle.log_lines.proofs.NumberLemmas.{decimal_lacks}
use Rattle.log_lines.proofs.IntLemmas.{int_again, int_takes}
use Rattle.log_lines.proofs.QuotingLemmas.{quoted_again, quoted_takes}

-- a mark that no integer has
pub record Marks (close : ℕ) : Type 0 where
  pub digit : is_ascii_digit close ≡ false
  pub sign : (45 == close) ≡ false

pub closing_marks : {X : Type 0} (xs : List X) → Marks (closing xs)
closing_marks [] = record { digit = refl; sign = refl }
closing_marks (x ∷ xs) = record { digit = refl; sign = refl }

signed_lacks : (close : ℕ) (z : ℤ) → Marks close → ValueFits (value.Int z) → lacks close (signed_decimal z) ≡ true
signed_lacks close (pos n) marks fits = decimal_lacks close n marks.digit (omega (arith, fits.sfits))
signed_lacks close (negsuc n) marks fits = ap (λ (b : Bool). not b && lacks close (decimal (suc n))) marks.sign ∙ decimal_lacks close (suc n) marks.digit (omega (arith, fits.sfits))

-- a value of a type, and what stands behind its mark
pub record TakesValue (type : Sort) (close : ℕ) (text : List ℕ) (p : Value × List ℕ) : Type 0 where
  pub of_type : is_of_sort type (p.0) ≡ true
  pub fits : ValueFits (p.0)
  pub split : text ≡ value_text (p.0) ++ close ∷ p.1

int_again_closed : (close : ℕ) (z : ℤ) (rest : List ℕ) → Marks close → ValueFits (value.Int z) → closed_int close (signed_decimal z ++ close ∷ rest) ≡ Some (value.Int z, rest)
unfolding closed_int
int_again_closed close z rest marks fits =
    ap (λ (o : Option (List ℕ × List ℕ)). o >>= λ p. int_of (p.0) >>= λ n. Some (value.Int n, p.1)) (cut_again close (signed_decimal z) rest (signed_lacks close z marks fits))
    ∙ ap (λ (o : Option ℤ). o >>= λ n. Some (value.Int n, rest)) (int_again z fits)

words_again_closed : (close : ℕ) (bytes rest : List ℕ) → ValueFits (value.Words bytes) → closed_words close (quoted bytes ++ close ∷ rest) ≡ Some (value.Words bytes, rest)
unfolding closed_words
words_again_closed close bytes rest fits =
    ap (λ (o : Option (List ℕ × List ℕ)). o >>= λ p. after (close ∷ []) (p.1) >>= λ rest. Some (value.Words (p.0), rest)) (quoted_again 120 (quoted bytes ++ close ∷ rest) bytes (close ∷ rest) (record { is_text = fits; split = refl }))
    ∙ ap (λ (o : Option (List ℕ)). o >>= λ rest. Some (value.Words bytes, rest)) (after_again (close ∷ []) rest)

pub closed_again : (type : Sort) (close : ℕ) (v : Value) (rest : List ℕ) → Marks close → is_of_sort type v ≡ true → ValueFits v → closed_value type close (value_text v ++ close ∷ rest) ≡ Some (v, rest)
closed_again sort.Int close (value.Int z) rest marks is fits = int_again_closed close z rest marks fits
closed_again sort.Int close (value.Words bytes) rest marks is fits = absurd cc
closed_again sort.Words close (value.Int z) rest marks is fits = absurd cc
closed_again sort.Words close (value.Words bytes) rest marks is fits = words_again_closed close bytes rest fits

closed_int_takes : (close : ℕ) (text : List ℕ) (p : Value × List ℕ) → closed_int close text ≡ Some p → TakesValue sort.Int close text p
unfolding closed_int
closed_int_takes close text p is =
    let parts = then_is (cut close text) (λ p. int_of (p.0) >>= λ n. Some (value.Int n, p.1)) p is in
    let number = then_is (int_of (parts.first.0)) (λ n. Some (value.Int n, parts.first.1)) p parts.result in
    let taken = cut_takes close text parts.first parts.is in
    let int = int_takes (parts.first.0) number.first number.is in
    let same : (value.Int number.first, parts.first.1) ≡ p = let e = number.result in cc in
    subst (TakesValue sort.Int close text) same (record {
      of_type = refl;
      fits = int.fits;
      split = taken.split ∙ ap (λ (l : List ℕ). l ++ close ∷ parts.first.1) int.is;
    })

closed_words_takes : (close : ℕ) (text : List ℕ) (p : Value × List ℕ) → closed_words close text ≡ Some p → TakesValue sort.Words close text p
unfolding closed_words
closed_words_takes close text p is =
    let parts = then_is (quoted_at 120 text) (λ p. after (close ∷ []) (p.1) >>= λ rest. Some (value.Words (p.0), rest)) p is in
    let mark = then_is (after (close ∷ []) (parts.first.1)) (λ rest. Some (value.Words (parts.first.0), rest)) p parts.result in
    let words = quoted_takes 120 text parts.first parts.is in
    let behind = after_takes (close ∷ []) (parts.first.1) mark.first mark.is in
    let same : (value.Words (parts.first.0), mark.first) ≡ p = let e = mark.result in cc in
    subst (TakesValue sort.Words close text) same (record {
      of_type = refl;
      fits = words.is_text;
      split = words.split ∙ ap (λ (l : List ℕ). quoted (parts.first.0) ++ l) behind;
    })

pub closed_takes : (type : Sort) (close : ℕ) (text : List ℕ) (p : Value × List ℕ) → closed_value type close text ≡ Some p → TakesValue type close text p
closed_takes sort.Int close text p is = closed_int_takes close text p is
closed_takes sort.Words close text p is = closed_words_takes close text p is

-- ---- values in turn

-- each value with its mark
abbrev pub closed_texts : List Value → List ℕ
closed_texts [] = []
closed_texts (v ∷ vs) = value_text v ++ closing vs ∷ closed_texts vs

closing_alike : (types : List Sort) (values : List Value) → are_of_sorts types values ≡ true → closing types ≡ closing values
closing_alike [] [] is = refl
closing_alike [] (v ∷ vs) is = absurd cc
closing_alike (type ∷ types) [] is = absurd cc
closing_alike (type ∷ types) (v ∷ vs) is = refl

-- one value more
abbrev pub more_values : List Sort → Option (Value × List ℕ) → Option (List Value × List ℕ)
more_values types read = read >>= λ v. values_at types (v.1) >>= λ vs. Some (v.0 ∷ vs.0, vs.1)

pub values_again : (types : List Sort) (values : List Value) (rest : List ℕ) → are_of_sorts types values ≡ true → AllByRecursion ValueFits values → values_at types (closed_texts values ++ rest) ≡ Some (values, rest)
unfolding values_at
values_again [] [] rest is fits = refl
values_again [] (v ∷ vs) rest is fits = absurd cc
values_again (type ∷ types) [] rest is fits = absurd cc
values_again (type ∷ types) (v ∷ vs) rest is fits =
    let parts = and_parts (is_of_sort type v) (are_of_sorts types vs) is in
    let alike = closing_alike types vs parts.1 in
    ap (λ (l : List ℕ). more_values types (closed_value type (closing types) l)) (append_assoc (value_text v) (closing vs ∷ closed_texts vs) rest)
    ∙ ap (λ (close : ℕ). more_values types (closed_value type close (value_text v ++ closing vs ∷ (closed_texts vs ++ rest)))) alike
    ∙ ap (more_values types) (closed_again type (closing vs) v (closed_texts vs ++ rest) (closing_marks vs) parts.0 fits.0)
    ∙ ap (λ (o : Option (List Value × List ℕ)). o >>= λ vs. Some (v ∷ vs.0, vs.1)) (values_again types vs rest parts.1 fits.1)

pub record TakesValues (types : List Sort) (text : List ℕ) (p : List Value × List ℕ) : Type 0 where
  pub of_types : are_of_sorts types (p.0) ≡ true
  pub fits : AllByRecursion ValueFits (p.0)
  pub split : text ≡ closed_texts (p.0) ++ p.1

pub values_takes : (types : List Sort) (text : List ℕ) (p : List Value × List ℕ) → values_at types text ≡ Some p → TakesValues types text p
unfolding values_at
values_takes [] text p is = let same : ([], text) ≡ p = cc in subst (TakesValues [] text) same (record { of_types = refl; fits = tt; split = refl })
values_takes (type ∷ types) text p is =
    let one = then_is (closed_value type (closing types) text) (λ v. values_at types (v.1) >>= λ vs. Some (v.0 ∷ vs.0, vs.1)) p is in
    let others = then_is (values_at types (one.first.1)) (λ vs. Some (one.first.0 ∷ vs.0, vs.1)) p one.result in
    let first = closed_takes type (closing types) text one.first one.is in
    let further = values_takes types (one.first.1) others.first others.is in
    let alike = closing_alike types (others.first.0) further.of_types in
    let same : (one.first.0 ∷ others.first.0, others.first.1) ≡ p = let e = others.result in cc in
    subst (TakesValues (type ∷ types) text) same (record {
      of_types = ap (λ (b : Bool). b && are_of_sorts types (others.first.0)) first.of_type ∙ further.of_types;
      fits = (first.fits, further.fits);
      split = first.split
          ∙ ap (λ (l : List ℕ). value_text (one.first.0) ++ closing types ∷ l) further.split
          ∙ ap (λ (close : ℕ). value_text (one.first.0) ++ close ∷ (closed_texts (others.first.0) ++ others.first.1)) alike
          ∙ sym (append_assoc (value_text (one.first.0)) (closing (others.first.0) ∷ closed_texts (others.first.0)) (others.first.1));
    })

-- ---- all values, with commas between them and `)` behind them

abbrev pub fields_text : List Value → List ℕ
fields_text values = comma_joined (map value_text values) ++ 41 ∷ []

closed_is : (v : Value) (vs : List Value) → closed_texts (v ∷ vs) ≡ fields_text (v ∷ vs)
closed_is v [] = refl
closed_is v (w ∷ vs) =
    ap (λ (l : List ℕ). value_text v ++ 44 ∷ l) (closed_is w vs)
    ∙ sym (append_assoc (value_text v) (44 ∷ comma_joined (map value_text (w ∷ vs))) (41 ∷ []))

abbrev pub all_values : Option (List Value × List ℕ) → Option (List Value)
all_values read = read >>= λ p. where_true (length (p.1) == 0) (Some (p.0))

pub fields_again : (types : List Sort) (values : List Value) → are_of_sorts types values ≡ true → AllByRecursion ValueFits values → fields_of types (fields_text values) ≡ Some values
unfolding fields_of values_at
fields_again [] [] is fits = ap (λ (o : Option (List ℕ)). o >>= λ t. all_values (values_at [] t)) (after_again (41 ∷ []) [])
fields_again [] (v ∷ vs) is fits = absurd cc
fields_again (type ∷ types) [] is fits = absurd cc
fields_again (type ∷ types) (v ∷ vs) is fits =
    ap (λ (l : List ℕ). all_values (values_at (type ∷ types) l)) (sym (closed_is v vs) ∙ sym (append-nil (closed_texts (v ∷ vs))))
    ∙ ap all_values (values_again (type ∷ types) (v ∷ vs) [] is fits)

pub record TakesFields (types : List Sort) (text : List ℕ) (values : List Value) : Type 0 where
  pub of_types : are_of_sorts types values ≡ true
  pub fits : AllByRecursion ValueFits values
  pub is : text ≡ fields_text values

pub no_rest : (rest : List ℕ) → (length rest == 0) ≡ true → rest ≡ []
no_rest [] is = refl
no_rest (b ∷ bs) is = let none : suc (length bs) ≡ 0 = eqb-true (suc (length bs)) 0 is in absurd (omega arith)

fields_by : (types : List Sort) (text : List ℕ) (values : List Value) → all_values (values_at types text) ≡ Some values → (are_of_sorts types values ≡ true) × AllByRecursion ValueFits values × (text ≡ closed_texts values)
fields_by types text values is =
    let read = then_is (values_at types text) (λ p. where_true (length (p.1) == 0) (Some (p.0))) values is in
    let whole = where_is (length (read.first.1) == 0) (Some (read.first.0)) values read.result in
    let taken = values_takes types text read.first read.is in
    let same : read.first.0 ≡ values = let e = whole.is in cc in
    let P : List Value → Type 0 = λ vs. (are_of_sorts types vs ≡ true) × AllByRecursion ValueFits vs × (text ≡ closed_texts vs) in
    subst P same (taken.of_types, taken.fits, taken.split ∙ ap (λ (l : List ℕ). closed_texts (read.first.0) ++ l) (no_rest (read.first.1) whole.test) ∙ append-nil (closed_texts (read.first.0)))

closed_fields : (type : Sort) (types : List Sort) (values : List Value) → are_of_sorts (type ∷ types) values ≡ true → closed_texts values ≡ fields_text values
closed_fields type types [] is = absurd cc
closed_fields type types (v ∷ vs) is = closed_is v vs

no_types : (values : List Value) → are_of_sorts [] values ≡ true → values ≡ []
no_types [] is = refl
no_types (v ∷ vs) is = absurd cc

pub fields_takes : (types : List Sort) (text : List ℕ) (values : List Value) → fields_of types text ≡ Some values → TakesFields types text values
unfolding fields_of
fields_takes [] text values is =
    let open_mark = then_is (after (41 ∷ []) text) (λ t. all_values (values_at [] t)) values is in
    let parts = fields_by [] open_mark.first values open_mark.result in
    let none = no_types values parts.0 in
    let rest : open_mark.first ≡ [] = parts.2 ∙ ap closed_texts none in
    record {
      of_types = parts.0;
      fits = parts.1;
      is = after_takes (41 ∷ []) text open_mark.first open_mark.is ∙ ap (λ (l : List ℕ). 41 ∷ l) rest ∙ ap fields_text (sym none);
    }
fields_takes (type ∷ types) text values is =
    let parts = fields_by (type ∷ types) text values is in
    record { of_types = parts.0; fits = parts.1; is = parts.2 ∙ closed_fields type types values parts.0 }
