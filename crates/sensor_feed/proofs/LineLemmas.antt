-- Lines that are cut at their commas are the records of csv.
use Rattle.std.proofs.Common.{◌≡◌, ℕ, zero, suc, ◌+◌, ◌-◌, ◌<◌, ◌≤◌, Bool, true, false, cond, List, [], ◌∷◌, ◌++◌, length, map, take, drop, get_or, Bor, Option, None, Some, refl, sym, ap, ◌∙◌, arith}
use Rattle.std.specs.Prelude.{◌==◌, ◌||◌, ◌&&◌, not, slice_get, slice_index}
use Rattle.std.proofs.lemmas.Bool.Decides.{nat_tests}
use Rattle.std.proofs.lemmas.List.{drop_all, take_all, length-drop, map-append}
use Rattle.std.proofs.lemmas.List.Sums.{prefix_len-le-length}
use Rattle.std.proofs.lemmas.Option.{slice_get-get_or}
use Rattle.std.specs.List.{list_all, prefix_len}
use Rattle.csv.specs.Machine.{Read, after_end, ends_at_end, field_after, fields_after, in_field, is_end, next_record, start_field, step}
use Rattle.csv.specs.Reading.{default_config, records, records_from, strip_bom}
use Rattle.csv.specs.declared.parser.Action.{Action}
use Rattle.csv.specs.declared.parser.Action.TheVariants as act
use Rattle.csv.specs.declared.parser.Config.{Config}
use Rattle.csv.specs.declared.parser.State.{State}
use Rattle.csv.specs.declared.parser.State.TheVariants as st
use Rattle.csv.specs.declared.parser.Terminator.TheVariants as term
use Rattle.sensor_feed.specs.Feed.{Record}
use Rattle.sensor_feed.specs.Line.{CutsLine, IsPlain, ends_row, is_no_quote}
use Rattle.sensor_feed.proofs.ReadsLemmas.{drop_at}
use Rattle.sensor_feed.proofs.RecordLemmas.{ends_after, first_taken, none_left}

-- ---- lists

pub all_dropped : (p : ℕ → Bool) (n : ℕ) (xs : List ℕ) → list_all p xs ≡ true → list_all p (drop n xs) ≡ true
all_dropped p zero xs all = all
all_dropped p (suc n) [] all = all
all_dropped p (suc n) (x ∷ xs) all = all_dropped p n xs (behind (p x) all)
  where
    behind : (b : Bool) → (b && list_all p xs) ≡ true → list_all p xs ≡ true
    behind true is = is
    behind false is = absurd cc

first_of_all : (p : ℕ → Bool) (x : ℕ) (xs : List ℕ) → list_all p (x ∷ xs) ≡ true → p x ≡ true
first_of_all p x xs all = by-test (p x) all
  where
    by-test : (b : Bool) → (b && list_all p xs) ≡ true → b ≡ true
    by-test true is = refl
    by-test false is = absurd cc

drop_one : (x : ℕ) (xs : List ℕ) (n : ℕ) → drop (1 + n) (x ∷ xs) ≡ drop n xs
drop_one x xs n = let e : 1 + n ≡ suc n = omega arith in ap (λ k. drop k (x ∷ xs)) e

take_more : (xs : List ℕ) (n c : ℕ) → slice_get xs n ≡ Some c → take (suc n) xs ≡ take n xs ++ c ∷ []
take_more [] n c is = absurd cc
take_more (x ∷ xs) zero c is = let e : x ≡ c = cc in ap (λ (y : ℕ). y ∷ []) e
take_more (x ∷ xs) (suc n) c is = ap (λ (ys : List ℕ). x ∷ ys) (take_more xs n c is)

field_more : (text : List ℕ) (start k c : ℕ) → slice_get text (start + k) ≡ Some c → take (suc k) (drop start text) ≡ take k (drop start text) ++ c ∷ []
field_more text zero k c is = let e : 0 + k ≡ k = omega arith in take_more text k c (ap (slice_get text) (sym e) ∙ is)
field_more [] (suc start) k c is = absurd cc
field_more (x ∷ text) (suc start) k c is = let e : suc start + k ≡ suc (start + k) = omega arith in field_more text start k c (ap (slice_get (x ∷ text)) (sym e) ∙ is)

-- ---- one byte

abbrev cfg : Config
cfg = default_config

module _ (fields : Record) (field : List ℕ) (c : ℕ) (rest : List ℕ) where
  abbrev onward : State × Action → Option Read
  onward p =
      cond (is_end p.1) (Some (fields_after p.1 fields field, p.0, rest))
      (next_record cfg p.0 (fields_after p.1 fields field) (field_after p.1 c field) rest)

  one_step : (s : State) (p : State × Action) → step cfg s c ≡ p → next_record cfg s fields field (c ∷ rest) ≡ onward p
  unfolding next_record
  one_step s p is = ap onward is

abbrev skips : State × Action
skips = (st.StartRecord, act.Skip)

abbrev quotes : State × Action
quotes = (st.InQuoted, act.Skip)

no_quote : (c : ℕ) → is_no_quote c ≡ true → (c == 34) ≡ false
no_quote c is = by-test (c == 34) is
  where
    by-test : (b : Bool) → not b ≡ true → b ≡ false
    by-test true is = absurd cc
    by-test false is = refl

plain_start : (c : ℕ) → is_no_quote c ≡ true → step cfg st.StartField c ≡ step cfg st.InField c
plain_start c plain = ap (λ (b : Bool). cond b quotes (in_field cfg c)) (no_quote c plain)

plain_record : (c : ℕ) → is_no_quote c ≡ true → ends_row c ≡ false → step cfg st.StartRecord c ≡ step cfg st.InField c
plain_record c plain on = ap (λ (b : Bool). cond b skips (start_field cfg c)) on ∙ plain_start c plain

end_skipped : (c : ℕ) → ends_row c ≡ true → step cfg st.StartRecord c ≡ skips
end_skipped c is = ap (λ (b : Bool). cond b skips (start_field cfg c)) is

after_cr : (c : ℕ) → step cfg st.AfterCr c ≡ step cfg st.StartRecord c
after_cr c = by-tests (c == 13) (c == 10)
  where
    by-tests : (a b : Bool) → cond b skips (cond (a || b) skips (start_field cfg c)) ≡ cond (a || b) skips (start_field cfg c)
    by-tests true true = refl
    by-tests true false = refl
    by-tests false true = refl
    by-tests false false = refl

copied : (c : ℕ) → (c == 44) ≡ false → ends_row c ≡ false → step cfg st.InField c ≡ (st.InField, act.Copy)
copied c other on =
    ap (λ (b : Bool). cond b (st.StartField, act.EndField) (cond (ends_row c) (cond (c == 13) st.AfterCr st.StartRecord, act.EndRecord) (st.InField, act.Copy))) other
    ∙ ap (λ (b : Bool). cond b (cond (c == 13) st.AfterCr st.StartRecord, act.EndRecord) (st.InField, act.Copy)) on

ended : (c : ℕ) → (c == 44) ≡ false → ends_row c ≡ true → step cfg st.InField c ≡ (after_end term.CRLF c, act.EndRecord)
ended c other end =
    ap (λ (b : Bool). cond b (st.StartField, act.EndField) (cond (ends_row c) (after_end term.CRLF c, act.EndRecord) (st.InField, act.Copy))) other
    ∙ ap (λ (b : Bool). cond b (after_end term.CRLF c, act.EndRecord) (st.InField, act.Copy)) end

-- ---- records from two states

-- the records of two texts are the same, where the first is read alike
alike : (s t : State) (xs ys : List ℕ) → ends_at_end s ≡ false → ends_at_end t ≡ false → next_record cfg s [] [] xs ≡ next_record cfg t [] [] ys
    → records_from cfg (length xs + 1) s xs ≡ records_from cfg (length ys + 1) t ys
alike s t xs ys from to same = by-next (next_record cfg t [] [] ys) refl
  where
    by-next : (o : Option Read) → next_record cfg t [] [] ys ≡ o → records_from cfg (length xs + 1) s xs ≡ records_from cfg (length ys + 1) t ys
    by-next None is = none_left cfg s xs (same ∙ is) ∙ sym (none_left cfg t ys is)
    by-next (Some q) is = first_taken cfg s xs q from (same ∙ is) ∙ sym (first_taken cfg t ys q to is)

next_between_two : (s : State) (xs : List ℕ) → ends_at_end s ≡ false → next_record cfg s [] [] xs ≡ next_record cfg st.StartRecord [] [] xs
unfolding next_record
next_between_two st.StartRecord xs is = refl
next_between_two st.AfterCr [] is = refl
next_between_two st.AfterCr (c ∷ rest) is = one_step [] [] c rest st.AfterCr (step cfg st.StartRecord c) (after_cr c)
next_between_two st.StartField xs is = absurd cc
next_between_two st.InField xs is = absurd cc
next_between_two st.InQuoted xs is = absurd cc
next_between_two st.AfterQuote xs is = absurd cc
next_between_two st.InEscape xs is = absurd cc
next_between_two st.InComment xs is = absurd cc

-- ---- the ends of empty lines

next_behind_ends : (text : List ℕ) → next_record cfg st.StartRecord [] [] text ≡ next_record cfg st.StartRecord [] [] (drop (prefix_len ends_row text) text)
next_behind_ends [] = refl
next_behind_ends (c ∷ text) = by-test (ends_row c) refl (next_behind_ends text)
  where
    by-test : (b : Bool) → ends_row c ≡ b → next_record cfg st.StartRecord [] [] text ≡ next_record cfg st.StartRecord [] [] (drop (prefix_len ends_row text) text)
        → next_record cfg st.StartRecord [] [] (c ∷ text) ≡ next_record cfg st.StartRecord [] [] (drop (cond b (1 + prefix_len ends_row text) 0) (c ∷ text))
    by-test true is more =
        one_step [] [] c text st.StartRecord skips (end_skipped c is) ∙ more
        ∙ ap (next_record cfg st.StartRecord [] []) (sym (drop_one c text (prefix_len ends_row text)))
    by-test false is more = refl

no_end_there : (text : List ℕ) (c : ℕ) (rest : List ℕ) → drop (prefix_len ends_row text) text ≡ c ∷ rest → ends_row c ≡ false
no_end_there [] c rest is = absurd cc
no_end_there (x ∷ text) c rest is = by-test (ends_row x) refl is (no_end_there text c rest)
  where
    by-test : (b : Bool) → ends_row x ≡ b → drop (cond b (1 + prefix_len ends_row text) 0) (x ∷ text) ≡ c ∷ rest
        → (drop (prefix_len ends_row text) text ≡ c ∷ rest → ends_row c ≡ false) → ends_row c ≡ false
    by-test true ends there more = more (sym (drop_one x text (prefix_len ends_row text)) ∙ there)
    by-test false ends there more = let e : x ≡ c = cc in ap ends_row (sym e) ∙ ends

pub no_line : (text line : List ℕ) (n : ℕ) → n ≡ prefix_len ends_row text → line ≡ drop n text → true ≡ (length line == 0) → records cfg text ≡ []
unfolding next_record
no_line text line n is there none =
    none_left cfg st.StartRecord text (next_behind_ends text ∙ ap (λ k. next_record cfg st.StartRecord [] [] (drop k text)) (sym is)
    ∙ ap (next_record cfg st.StartRecord [] []) (sym there ∙ empty line none) ∙ nothing)
  where
    empty : (xs : List ℕ) → true ≡ (length xs == 0) → xs ≡ []
    empty [] test = refl
    empty (x ∷ xs) test = let e : length (x ∷ xs) ≡ 0 = grind (arith, nat_tests) in absurd (omega (arith, e))

    nothing : next_record cfg st.StartRecord [] [] [] ≡ None
    nothing = refl

-- a line that is there is the first record
pub line_taken : (text line : List ℕ) (n : ℕ) (fields : Record) (rest : List ℕ) → n ≡ prefix_len ends_row text → line ≡ drop n text → false ≡ (length line == 0)
    → list_all is_no_quote text ≡ true → CutsLine line fields rest → records cfg text ≡ fields ∷ records cfg rest
line_taken text line n fields rest is there some plain cut = by-line line there (grind (arith, nat_tests)) cut.next
  where
    by-line : (l : List ℕ) → l ≡ drop n text → 0 < length l → next_record cfg st.InField [] [] l ≡ Some (fields, cut.state, rest) → records cfg text ≡ fields ∷ records cfg rest
    by-line [] there some next = absurd (omega arith)
    by-line (c ∷ others) there some next =
        let on : ends_row c ≡ false = no_end_there text c others (ap (λ k. drop k text) (sym is) ∙ sym there) in
        let plain_line : list_all is_no_quote (c ∷ others) ≡ true = ap (list_all is_no_quote) there ∙ all_dropped is_no_quote n text plain in
        let starts : next_record cfg st.StartRecord [] [] (c ∷ others) ≡ next_record cfg st.InField [] [] (c ∷ others) =
        one_step [] [] c others st.StartRecord (step cfg st.InField c) (plain_record c (first_of_all is_no_quote c others plain_line) on)
        ∙ sym (one_step [] [] c others st.InField (step cfg st.InField c) refl) in
        let first : next_record cfg st.StartRecord [] [] text ≡ Some (fields, cut.state, rest) =
        next_behind_ends text ∙ ap (λ k. next_record cfg st.StartRecord [] [] (drop k text)) (sym is) ∙ ap (next_record cfg st.StartRecord [] []) (sym there)
        ∙ starts ∙ next in
        first_taken cfg st.StartRecord text (fields, cut.state, rest) refl first
        ∙ ap (λ (others : List Record). fields ∷ others) (alike cut.state st.StartRecord rest rest cut.between refl (next_between_two cut.state rest cut.between))

-- ---- inside of a line

abbrev pub nows : List (Bor (List ℕ)) → Record
nows = map (λ (field : Bor (List ℕ)). field.now)

-- a field more
pub nows_more : (new old : List (Bor (List ℕ))) (x : Bor (List ℕ)) (field : List ℕ) → new ≡ old ++ x ∷ [] → x.now ≡ field → nows new ≡ nows old ++ field ∷ []
nows_more new old x field is same = ap nows is ∙ map-append (λ (field : Bor (List ℕ)). field.now) old (x ∷ []) ∙ ap (λ (f : List ℕ). nows old ++ f ∷ []) same

starts_as_inside : (fields : Record) (field : List ℕ) (text : List ℕ) → list_all is_no_quote text ≡ true → next_record cfg st.StartField fields field text ≡ next_record cfg st.InField fields field text
unfolding next_record
starts_as_inside fields field [] plain = refl
starts_as_inside fields field (c ∷ rest) plain = one_step fields field c rest st.StartField (step cfg st.InField c) (plain_start c (first_of_all is_no_quote c rest plain))

module _ (text : List ℕ) (fields : Record) (start place : ℕ) (before : start ≤ place) (within : place < length text) where
  abbrev c : ℕ
  c = get_or text place 0

  here : slice_get text place ≡ Some c
  here = slice_get-get_or text place 0 within

  abbrev field : List ℕ
  field = take (place - start) (drop start text)

  module _ (told : next_record cfg st.InField fields field (drop place text) ≡ next_record cfg st.InField [] [] text) where
    opened : next_record cfg st.InField fields field (c ∷ drop (place + 1) text) ≡ next_record cfg st.InField [] [] text
    opened = ap (next_record cfg st.InField fields field) (sym (drop_at text place c here)) ∙ told

    pub goes_on : (c == 44) ≡ false → ends_row c ≡ false
        → next_record cfg st.InField fields (take (place + 1 - start) (drop start text)) (drop (place + 1) text) ≡ next_record cfg st.InField [] [] text
    goes_on other on =
        let k : place ≡ start + (place - start) = omega (arith, before) in
        let more : take (suc (place - start)) (drop start text) ≡ field ++ c ∷ [] = field_more text start (place - start) c (ap (slice_get text) (sym k) ∙ here) in
        let count : place + 1 - start ≡ suc (place - start) = omega (arith, before) in
        ap (λ n. next_record cfg st.InField fields (take n (drop start text)) (drop (place + 1) text)) count
        ∙ ap (λ (f : List ℕ). next_record cfg st.InField fields f (drop (place + 1) text)) more
        ∙ sym (one_step fields field c (drop (place + 1) text) st.InField (st.InField, act.Copy) (copied c other on)) ∙ opened

    pub next_field : c ≡ 44 → list_all is_no_quote text ≡ true
        → next_record cfg st.InField (fields ++ field ∷ []) (take (place + 1 - (place + 1)) (drop (place + 1) text)) (drop (place + 1) text) ≡ next_record cfg st.InField [] [] text
    next_field comma plain =
        let none : place + 1 - (place + 1) ≡ 0 = omega arith in
        let ends : step cfg st.InField c ≡ (st.StartField, act.EndField) = ap (step cfg st.InField) comma in
        ap (λ n. next_record cfg st.InField (fields ++ field ∷ []) (take n (drop (place + 1) text)) (drop (place + 1) text)) none
        ∙ sym (starts_as_inside (fields ++ field ∷ []) [] (drop (place + 1) text) (all_dropped is_no_quote (place + 1) text plain))
        ∙ sym (one_step fields field c (drop (place + 1) text) st.InField (st.StartField, act.EndField) ends) ∙ opened

    pub ends_here : (c == 44) ≡ false → ends_row c ≡ true → list_all is_no_quote text ≡ true → CutsLine text (fields ++ field ∷ []) (drop (place + 1) text)
    ends_here other end plain = record {
      state = after_end term.CRLF c;
      next = sym opened ∙ one_step fields field c (drop (place + 1) text) st.InField (after_end term.CRLF c, act.EndRecord) (ended c other end);
      between = ends_after term.CRLF c;
      plain = all_dropped is_no_quote (place + 1) text plain;
    }

pub ends_at_last : (text : List ℕ) (fields : Record) (start place n : ℕ) → start ≤ place → length text ≤ place → n ≡ length text
    → next_record cfg st.InField fields (take (place - start) (drop start text)) (drop place text) ≡ next_record cfg st.InField [] [] text
    → CutsLine text (fields ++ drop start text ∷ []) (drop n text)
unfolding next_record
ends_at_last text fields start place n before last all told =
    let nothing : drop place text ≡ [] = drop_all place text (omega (arith, last)) in
    let rest : drop n text ≡ [] = drop_all n text (omega (arith, all)) in
    let whole : take (place - start) (drop start text) ≡ drop start text = take_all (place - start) (drop start text) (let e = length-drop start text in omega (arith, e, last)) in
    record {
      state = st.StartRecord;
      next = sym told ∙ ap (next_record cfg st.InField fields (take (place - start) (drop start text))) nothing
          ∙ ap (λ (f : List ℕ). Some (fields ++ f ∷ [], st.StartRecord, [])) whole ∙ ap (λ (r : List ℕ). Some (fields ++ drop start text ∷ [], st.StartRecord, r)) (sym rest);
      between = refl;
      plain = ap (list_all is_no_quote) rest;
    }

-- ---- where there is no mark of the order of bytes

no_mark : (bytes : List ℕ) → (slice_index bytes 0 == 0xEF) ≡ false → strip_bom bytes ≡ bytes
unfolding strip_bom
no_mark [] is = refl
no_mark (a ∷ []) is = refl
no_mark (a ∷ b ∷ []) is = refl
no_mark (a ∷ b ∷ c ∷ rest) is = ap (λ (t : Bool). cond (t && (b == 0xBB) && (c == 0xBF)) rest (a ∷ b ∷ c ∷ rest)) is

pub plain_told : (bytes : List ℕ) (first : ℕ) → first ≡ slice_index bytes 0 → (first ≡ 0xEF → ⊥) → list_all is_no_quote bytes ≡ true → IsPlain bytes
plain_told bytes first is other plain =
    let test : (first == 0xEF) ≡ false = grind (arith, nat_tests) in
    record { plain = plain; whole = ap (records cfg) (no_mark bytes (ap (λ b. b == 0xEF) (sym is) ∙ test)) }

pub ends_within : (text : List ℕ) (n : ℕ) → n ≡ prefix_len ends_row text → n ≤ length text
ends_within text n is = let within = prefix_len-le-length ends_row text in omega (arith, is, within)
