-- Each line behind the first one, against its text.
use Rattle.std.proofs.Common.{◌≡◌, ◌∙◌, ℕ, suc, ◌-◌, ◌^◌, ◌<◌, ◌≤◌, ◌==◌, Bool, true, false, List, [], ◌∷◌, ◌++◌, length, map, get_or, Some, refl, sym, ap, subst, ⊎_elim, append-nil, arith}
use Rattle.std.specs.Prelude.{ℤ, pos, negsuc, codes, if◌then◌else◌}
use Rattle.std.specs.List.{AllByRecursion}
use Rattle.std.specs.Fmt.{decimal, signed_decimal}
use Rattle.std.specs.Char.{is_ascii_digit}
use Rattle.std.proofs.lemmas.Bool.{cases_Bool, eqb-true}
use Rattle.std.proofs.lemmas.Bool.Decides.{nat_tests}
use Rattle.std.proofs.lemmas.List.Splits.{join_with_byte-slice_split, length-slice_split}
use Rattle.std.proofs.lemmas.Option.{same_Some}
use Rattle.join_base.specs.Stamps.{greatest_stamp}
use Rattle.join_base.specs.Quoted.{quoted}
use Rattle.join_base.specs.Text.{IsText}
use Rattle.join_base.specs.declared.message.Value.{Value}
use Rattle.join_base.specs.declared.message.Value.TheVariants as value
use Rattle.fair_semantics.specs.Fits.{IsFrom1To, StampFits, ValueFits}
use Rattle.arrival_log.specs.LogText.{comma_joined, value_text}
use Rattle.log_lines.specs.Gives.{◌>>=◌}
use Rattle.log_lines.specs.Cut.{after}
use Rattle.log_lines.specs.Numbers.{int_of, number_of}
use Rattle.log_lines.specs.Quoting.{quoted_at}
use Rattle.log_lines.specs.Messages.{all_numbers, numbers_of, value_of, words_of}
use Rattle.log_lines.specs.Lines.{count_at, stamp_at}
use Rattle.log_lines.proofs.OptionLemmas.{bind_is, bound, else_is, where_is}
use Rattle.log_lines.proofs.CutLemmas.{after_again, after_takes}
use Rattle.log_lines.proofs.NumberLemmas.{decimal_first, decimal_lacks, number_again, number_takes}
use Rattle.log_lines.proofs.IntLemmas.{int_again, int_takes}
use Rattle.log_lines.proofs.QuotingLemmas.{quoted_again, quoted_takes}
use Rattle.log_lines.proofs.ListLemmas.{comma_parts, split_again, split_last}
use Rattle.log_lines.proofs.FieldLemmas.{no_rest}
use Rattle.log_lines.proofs.HeadLemmas.{count_at_again, count_at_takes}

-- ---- lists of numbers

abbrev pub AreNumbers : List ℕ → Type 0
AreNumbers ns = AllByRecursion (λ n. n < 2 ^ 32) ns

abbrev pub decimals : List ℕ → List (List ℕ)
decimals ns = map (λ n. decimal n) ns

numbers_split : (n : ℕ) (ns : List ℕ) → AreNumbers (n ∷ ns) → comma_parts (comma_joined (decimals (n ∷ ns))) ≡ decimals (n ∷ ns)
numbers_split n [] fits = split_last (decimal n) (decimal_lacks 44 n refl (let small = fits.0 in omega arith))
numbers_split n (m ∷ ms) fits =
    split_again (decimal n) (comma_joined (decimals (m ∷ ms))) (decimal_lacks 44 n refl (let small = fits.0 in omega arith))
    ∙ ap (λ (l : List (List ℕ)). decimal n ∷ l) (numbers_split m ms fits.1)

all_again : (ns : List ℕ) → AreNumbers ns → all_numbers (decimals ns) ≡ Some ns
all_again [] fits = refl
all_again (n ∷ ns) fits =
    let small = fits.0 in
    bind_is _ n (number_again (2 ^ 32 - 1) n (omega arith) (omega arith)) (bind_is _ ns (all_again ns fits.1) refl)

pub numbers_again : (n : ℕ) (ns : List ℕ) → AreNumbers (n ∷ ns) → numbers_of (comma_joined (decimals (n ∷ ns))) ≡ Some (n ∷ ns)
unfolding numbers_of
numbers_again n ns fits = ap all_numbers (numbers_split n ns fits) ∙ all_again (n ∷ ns) fits

pub record TakesNumbers (text : List ℕ) (ns : List ℕ) : Type 0 where
  pub some : 1 ≤ length ns
  pub fits : AreNumbers ns
  pub is : text ≡ comma_joined (decimals ns)

pub record TakesAll (parts : List (List ℕ)) (ns : List ℕ) : Type 0 where
  pub fits : AreNumbers ns
  pub are : parts ≡ decimals ns

all_takes : (parts : List (List ℕ)) (ns : List ℕ) → all_numbers parts ≡ Some ns → TakesAll parts ns
all_takes [] ns is = let same : [] ≡ ns = same_Some _ _ is in subst (TakesAll []) same (record { fits = tt; are = refl })
all_takes (part ∷ parts) ns is =
    let one = bound {o = number_of (2 ^ 32 - 1) part} is in
    let others = bound {o = all_numbers parts} one.result in
    let number = number_takes (2 ^ 32 - 1) part one.first (omega arith) one.is in
    let further = all_takes parts others.first others.is in
    let same : one.first ∷ others.first ≡ ns = same_Some _ _ others.result in
    let small = number.below in
    subst (TakesAll (part ∷ parts)) same (record {
      fits = (omega arith, further.fits);
      are = ap (λ (l : List ℕ). l ∷ parts) number.is ∙ ap (λ (l : List (List ℕ)). decimal one.first ∷ l) further.are;
    })

-- the parts that commas part, joined again
joined : (text : List ℕ) → comma_joined (comma_parts text) ≡ text
joined text = join_with_byte-slice_split 44 text

parts_some : (text : List ℕ) → 1 ≤ length (comma_parts text)
parts_some text = omega (arith, length-slice_split (λ (b : ℕ). b == 44) text)

length_decimals : (ns : List ℕ) → length (decimals ns) ≡ length ns
length_decimals [] = refl
length_decimals (n ∷ ns) = ap suc (length_decimals ns)

pub numbers_takes : (text : List ℕ) (ns : List ℕ) → numbers_of text ≡ Some ns → TakesNumbers text ns
unfolding numbers_of
numbers_takes text ns is =
    let all = all_takes (comma_parts text) ns is in
    let some = parts_some text in
    record { some = omega (arith, ap length all.are, length_decimals ns, some); fits = all.fits; is = sym (joined text) ∙ ap comma_joined all.are }

-- ---- texts and values alone

pub words_again : (max : ℕ) (bytes : List ℕ) → IsText max bytes → words_of max (quoted bytes) ≡ Some bytes
unfolding words_of
words_again max bytes fits = bind_is _ (bytes, []) (quoted_again max (quoted bytes) bytes [] (record { is_text = fits; split = sym (append-nil (quoted bytes)) })) refl

pub record TakesWords (max : ℕ) (text bytes : List ℕ) : Type 0 where
  pub fits : IsText max bytes
  pub is : text ≡ quoted bytes

pub words_takes : (max : ℕ) (text bytes : List ℕ) → words_of max text ≡ Some bytes → TakesWords max text bytes
unfolding words_of
words_takes max text bytes is =
    let read = bound {o = quoted_at max text} is in
    let whole = where_is (length (read.first.1) == 0) (Some (read.first.0)) bytes read.result in
    let taken = quoted_takes max text read.first read.is in
    let same : read.first.0 ≡ bytes = same_Some _ _ whole.is in
    subst (TakesWords max text) same (record {
      fits = taken.is_text;
      is = taken.split ∙ ap (λ (l : List ℕ). quoted (read.first.0) ++ l) (no_rest (read.first.1) whole.test) ∙ append-nil (quoted (read.first.0));
    })

digit_no_quote : (b : ℕ) → is_ascii_digit b ≡ true → (b == 34) ≡ false
digit_no_quote b is = grind (arith, nat_tests)

no_quote : (z : ℤ) → ValueFits (value.Int z) → (get_or (signed_decimal z) 0 0 == 34) ≡ false
no_quote (pos n) fits = digit_no_quote (get_or (decimal n) 0 0) (decimal_first n (omega (arith, fits.sfits)))
no_quote (negsuc n) fits = refl

pub value_again : (v : Value) → ValueFits v → value_of (value_text v) ≡ Some v
unfolding value_of
value_again (value.Int z) fits =
    ap (λ (b : Bool). if b then (words_of 120 (signed_decimal z) >>= λ bytes. Some (value.Words bytes)) else (int_of (signed_decimal z) >>= λ n. Some (value.Int n))) (no_quote z fits)
    ∙ bind_is _ z (int_again z fits) refl
value_again (value.Words bytes) fits = bind_is _ bytes (words_again 120 bytes fits) refl

pub record TakesAlone (text : List ℕ) (v : Value) : Type 0 where
  pub fits : ValueFits v
  pub is : text ≡ value_text v

pub value_takes : (text : List ℕ) (v : Value) → value_of text ≡ Some v → TakesAlone text v
unfolding value_of
value_takes text v is =
    let one = else_is (get_or text 0 0 == 34) (words_of 120 text >>= λ bytes. Some (value.Words bytes)) (int_of text >>= λ n. Some (value.Int n)) v is in
    ⊎_elim
    (λ (t : (get_or text 0 0 == 34) ≡ true).
    let read = bound {o = words_of 120 text} (one.yes t) in
    let words = words_takes 120 text read.first read.is in
    let same : value.Words read.first ≡ v = same_Some _ _ read.result in
    subst (TakesAlone text) same (record { fits = words.fits; is = words.is }))
    (λ (f : (get_or text 0 0 == 34) ≡ false).
    let read = bound {o = int_of text} (one.no f) in
    let int = int_takes text read.first read.is in
    let same : value.Int read.first ≡ v = same_Some _ _ read.result in
    subst (TakesAlone text) same (record { fits = int.fits; is = int.is }))
    (cases_Bool (get_or text 0 0 == 34))

-- ---- stamps

-- the stamp in front of what follows, but for version 1
abbrev pub stamped : Bool → ℕ → List ℕ → List ℕ
stamped true stamp rest = rest
stamped false stamp rest = codes "at " ++ (decimal stamp ++ 32 ∷ rest)

not_one : (n : ℕ) → (n == 1) ≡ false → n ≡ 1 → ⊥
not_one n f e = absurd (grind (arith, nat_tests))

pub stamp_again : (version stamp : ℕ) (rest : List ℕ) (b : Bool) → (version == 1) ≡ b → IsFrom1To 2 version → StampFits version stamp → stamp_at version (stamped b stamp rest) ≡ Some (stamp, rest)
unfolding stamp_at
stamp_again version stamp rest true is low fits =
    ap (λ (b : Bool). if b then Some (0, rest) else (after (codes "at ") rest >>= count_at greatest_stamp)) is
    ∙ ap (λ (n : ℕ). Some (n, rest)) (sym (fits.first (eqb-true version 1 is)))
stamp_again version stamp rest false is low fits =
    let other = not_one version is in
    let second : version ≡ 2 = omega (arith, low.0, low.1, other) in
    let bounds = fits.second second in
    let text : List ℕ = codes "at " ++ (decimal stamp ++ 32 ∷ rest) in
    ap (λ (b : Bool). if b then Some (0, text) else (after (codes "at ") text >>= count_at greatest_stamp)) is
    ∙ bind_is _ (decimal stamp ++ 32 ∷ rest) (after_again (codes "at ") (decimal stamp ++ 32 ∷ rest)) (count_at_again greatest_stamp stamp rest bounds.0 bounds.1 (omega (arith, bounds.1)))

pub record TakesStamp (version : ℕ) (text : List ℕ) (p : ℕ × List ℕ) : Type 0 where
  pub fits : StampFits version (p.0)
  pub split : text ≡ stamped (version == 1) (p.0) (p.1)

stamp_by : (version : ℕ) (text : List ℕ) (p : ℕ × List ℕ) (b : Bool) → (version == 1) ≡ b → (if b then Some (0, text) else (after (codes "at ") text >>= count_at greatest_stamp)) ≡ Some p
    → StampFits version (p.0) × (text ≡ stamped b (p.0) (p.1))
stamp_by version text p true is told =
    let same : (0, text) ≡ p = same_Some _ _ told in
    let one = eqb-true version 1 is in
    subst (λ (q : ℕ × List ℕ). StampFits version (q.0) × (text ≡ stamped true (q.0) (q.1))) same (record { first = λ e. refl; second = λ e. absurd (omega arith) }, refl)
stamp_by version text p false is told =
    let rest = bound {o = after (codes "at ") text} told in
    let number = count_at_takes greatest_stamp rest.first p (omega arith) rest.result in
    (record { first = λ e. absurd (not_one version is e); second = λ e. (number.above, number.below) }, after_takes (codes "at ") text rest.first rest.is ∙ ap (λ (l : List ℕ). codes "at " ++ l) number.split)

pub stamp_takes : (version : ℕ) (text : List ℕ) (p : ℕ × List ℕ) → stamp_at version text ≡ Some p → TakesStamp version text p
unfolding stamp_at
stamp_takes version text p told = let both = stamp_by version text p (version == 1) refl told in record { fits = both.0; split = both.1 }
