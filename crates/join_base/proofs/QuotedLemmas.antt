-- Forms of bytes and quoted forms.
use Rattle.std.proofs.Common.{◌≡◌, ◌≢◌, ℕ, zero, suc, ◌+◌, ◌-◌, nat_le, ◌&&◌, if◌then◌else◌, ◌*◌, ◌/◌, ◌%◌, ◌<◌, ◌≤◌, true, false, ◌==◌, ◌||◌, ◌⊎◌, List, [], ◌∷◌, ◌++◌, length, take, drop, set, get_or, IfSome, Option, Some, None, sym, refl, ap, ◌∙◌, subst, inl, inr, ⊎_elim, append_assoc, arith}
use Rattle.std.specs.Fmt.{digit_glyph}
use Rattle.std.specs.List.{flat_map}
use Rattle.std.specs.Str.{IsUtf8, is_utf8}
use Rattle.std.proofs.lemmas.Str.{IsUtf8-from_is_utf8, is_utf8-from_IsUtf8}
use Rattle.std.proofs.lemmas.Bool.{cond-true, cond-false, cond_both, cases_Bool}
use Rattle.std.proofs.lemmas.Bool.Decides.{nat_tests}
use Rattle.std.proofs.lemmas.List.{append_cancel_left, append-nil, take_more_set, length-append, drop-drop}
use Rattle.std.proofs.lemmas.Grind.{flat_map-append}
use Rattle.join_base.specs.Quoted.{is_control, hex_form, byte_form, quoted, QuotedIsPrefixFree, QuotedIsDecided, Unquotes, BeginsNoQuoted}
use Rattle.join_base.specs.Unquoted.{hex_value, hex_byte, is_hex_escaped, hex_escape, escape, form_of, form_at, IsFront}

hex_value-glyph : (d : ℕ) → d < 16 → hex_value (digit_glyph false d) ≡ Some d
unfolding hex_value
hex_value-glyph d small = grind (arith, nat_tests)

hex_byte-glyphs : (b : ℕ) → b < 256 → hex_byte (hex_value (digit_glyph false (b / 16))) (hex_value (digit_glyph false (b % 16))) ≡ Some b
hex_byte-glyphs b small =
    let high = hex_value-glyph (b / 16) (omega arith) in
    let low = hex_value-glyph (b % 16) (omega arith) in
    let whole : b / 16 * 16 + b % 16 ≡ b = omega arith in
    rw (high, low) (ap Some whole)

control_small : (b : ℕ) → is_control b ≡ true → b < 256
control_small b h = grind (arith, nat_tests)

-- the four sorts of bytes
IsNamed : ℕ → Type 0
IsNamed b = (b ≡ 34) ⊎ ((b ≡ 92) ⊎ ((b ≡ 10) ⊎ ((b ≡ 13) ⊎ (b ≡ 9))))

form_of-glyphs : (b : ℕ) → is_hex_escaped b ≡ true → form_of 92 120 (digit_glyph false (b / 16)) (digit_glyph false (b % 16)) ≡ Some (b, 4)
unfolding form_of escape
form_of-glyphs b h =
    let small : b < 256 = grind (arith, nat_tests) in
    rw (hex_byte-glyphs b small, h) refl

form_at-itself : (b : ℕ) (rest : List ℕ) → b ≢ 92 → b ≢ 34 → is_control b ≡ false → form_at (b ∷ rest) ≡ Some (b, 1)
unfolding form_of
form_at-itself b rest h k plain = grind (arith, nat_tests)

-- ---- a form that stands in front is found

-- a byte is written by its name, by two digits, or as itself
sort_of : (b : ℕ) → IsNamed b ⊎ (((is_hex_escaped b ≡ true) × (byte_form b ≡ hex_form b)) ⊎ ((b ≢ 92) × (b ≢ 34) × (is_control b ≡ false) × (byte_form b ≡ b ∷ [])))
unfolding IsNamed
sort_of b = grind (arith, nat_tests)

pub form_at-form : (b : ℕ) (rest : List ℕ) → form_at (byte_form b ++ rest) ≡ Some (b, length (byte_form b))
unfolding IsNamed form_of escape
form_at-form b rest =
    let P : ℕ → Type 0 = λ n. form_at (byte_form n ++ rest) ≡ Some (n, length (byte_form n)) in
    ⊎_elim
    (⊎_elim (λ e. subst P (sym e) refl) (⊎_elim (λ e. subst P (sym e) refl) (⊎_elim (λ e. subst P (sym e) refl) (⊎_elim (λ e. subst P (sym e) refl) (λ e. subst P (sym e) refl)))))
    (⊎_elim
    (λ h. rw (h.1) (form_of-glyphs b h.0))
    (λ h. rw (h.3) (form_at-itself b rest h.0 h.1 h.2)))
    (sort_of b)

byte_of : Option (ℕ × ℕ) → ℕ
byte_of None = 0
byte_of (Some p) = p.0

-- what two forms begin is told by both
form_law : (b c : ℕ) (x y : List ℕ) → byte_form b ++ x ≡ byte_form c ++ y → (b ≡ c) × (x ≡ y)
unfolding byte_of
form_law b c x y e =
    let found : Path (Option (ℕ × ℕ)) (Some (b, length (byte_form b))) (Some (c, length (byte_form c))) = sym (form_at-form b x) ∙ (ap form_at e ∙ form_at-form c y) in
    let same : b ≡ c = ap byte_of found in
    (same, append_cancel_left (byte_form b) x y (e ∙ ap (λ n. byte_form n ++ y) (sym same)))

-- no form begins with a quote
no_quote : (b : ℕ) (x rest : List ℕ) → byte_form b ++ x ≡ 34 ∷ rest → ⊥
unfolding form_of
no_quote b x rest e =
    let found : Path (Option (ℕ × ℕ)) (Some (b, length (byte_form b))) None = sym (form_at-form b x) ∙ ap form_at e in
    absurd cc

cut : (b : ℕ) (bs x : List ℕ) → flat_map byte_form (b ∷ bs) ++ x ≡ byte_form b ++ (flat_map byte_form bs ++ x)
cut b bs x = append_assoc (byte_form b) (flat_map byte_form bs) x

-- ---- forms up to a quote

-- a text whose forms end at a quote begins with each text whose forms begin the same bytes
pub forms_split : (text w x rest : List ℕ) → flat_map byte_form text ++ x ≡ flat_map byte_form w ++ 34 ∷ rest
    → (more : List ℕ) × ((w ≡ text ++ more) × (x ≡ flat_map byte_form more ++ 34 ∷ rest))
forms_split [] w x rest e = (w, (refl, e))
forms_split (b ∷ bs) [] x rest e = absurd (no_quote b (flat_map byte_form bs ++ x) rest (sym (cut b bs x) ∙ e))
forms_split (b ∷ bs) (c ∷ cs) x rest e =
    let law = form_law b c (flat_map byte_form bs ++ x) (flat_map byte_form cs ++ 34 ∷ rest) (sym (cut b bs x) ∙ (e ∙ cut c cs (34 ∷ rest))) in
    let further = forms_split bs cs x rest law.1 in
    (further.0, (ap (λ (n : ℕ). n ∷ cs) (sym law.0) ∙ ap (λ (l : List ℕ). b ∷ l) further.1.0, further.1.1))

-- where a quote stands, the text has ended
pub ends_at_quote : (more x rest : List ℕ) → 34 ∷ x ≡ flat_map byte_form more ++ 34 ∷ rest → (more ≡ []) × (x ≡ rest)
ends_at_quote [] x rest e = (refl, ap (drop 1) e)
ends_at_quote (b ∷ bs) x rest e = absurd (no_quote b (flat_map byte_form bs ++ 34 ∷ rest) x (sym (e ∙ cut b bs (34 ∷ rest))))

forms_law : (text other rest more : List ℕ) → flat_map byte_form text ++ 34 ∷ rest ≡ flat_map byte_form other ++ 34 ∷ more → (text ≡ other) × (rest ≡ more)
forms_law text other rest more e =
    let split = forms_split text other (34 ∷ rest) more e in
    let end = ends_at_quote split.0 rest more split.1.1 in
    (sym (split.1.0 ∙ (ap (λ (l : List ℕ). text ++ l) end.0 ∙ append-nil text)), end.1)

pub quoted_split : (text rest : List ℕ) → quoted text ++ rest ≡ 34 ∷ (flat_map byte_form text ++ 34 ∷ rest)
quoted_split text rest = ap (λ (l : List ℕ). 34 ∷ l) (append_assoc (flat_map byte_form text) (34 ∷ []) rest)

pub quoted_is_prefix_free : QuotedIsPrefixFree
quoted_is_prefix_free text other rest more e =
    forms_law text other rest more (ap (drop 1) (sym (quoted_split text rest) ∙ (e ∙ quoted_split other more)))

-- ---- what is found is a form

pub IsFound : ℕ → ℕ → ℕ → ℕ → ℕ → ℕ → Type 0
IsFound a b c d v n =
    ((n ≡ 1) × (0 < a) × (byte_form v ≡ a ∷ []))
    ⊎ (((n ≡ 2) × (0 < a) × (0 < b) × (byte_form v ≡ a ∷ b ∷ []))
    ⊎ ((n ≡ 4) × (0 < a) × (0 < b) × (0 < c) × (0 < d) × (byte_form v ≡ a ∷ b ∷ c ∷ d ∷ [])))

size_of : Option (ℕ × ℕ) → ℕ
size_of None = 0
size_of (Some p) = p.1

parts : (v n w k : ℕ) → Path (Option (ℕ × ℕ)) (Some (v, n)) (Some (w, k)) → (v ≡ w) × (n ≡ k)
unfolding byte_of size_of
parts v n w k e = (ap byte_of e, ap size_of e)

-- the digit that has a value
IsDigitOf : ℕ → Option ℕ → Type 0
IsDigitOf d None = Unit {0}
IsDigitOf d (Some x) = (x < 16) × (digit_glyph false x ≡ d) × (0 < d)

digit_of_value : (d : ℕ) → IsDigitOf d (hex_value d)
unfolding hex_value IsDigitOf
digit_of_value d =
    cond_both (nat_le 48 d && nat_le d 57) (Some (d - 48)) (if nat_le 97 d && nat_le d 102 then Some (d - 87) else None) (IsDigitOf d)
    (λ t. (grind (arith, nat_tests), grind (arith, nat_tests), grind (arith, nat_tests)))
    (λ f. cond_both (nat_le 97 d && nat_le d 102) (Some (d - 87)) None (IsDigitOf d)
    (λ t. (grind (arith, nat_tests), grind (arith, nat_tests), grind (arith, nat_tests))) (λ g. tt))

hex_written : (b : ℕ) → is_hex_escaped b ≡ true → byte_form b ≡ hex_form b
hex_written b h = grind (arith, nat_tests)

hex_form-value : (x y c d : ℕ) → x < 16 → y < 16 → digit_glyph false x ≡ c → digit_glyph false y ≡ d → hex_form (x * 16 + y) ≡ 92 ∷ 120 ∷ c ∷ d ∷ []
hex_form-value x y c d xs ys e f =
    let high : (x * 16 + y) / 16 ≡ x = omega arith in
    let low : (x * 16 + y) % 16 ≡ y = omega arith in
    rw (high, low, e, f) refl

IsHexFound : ℕ → ℕ → ℕ → ℕ → Type 0
IsHexFound c d v n = (n ≡ 4) × (0 < c) × (0 < d) × (byte_form v ≡ 92 ∷ 120 ∷ c ∷ d ∷ [])

hex_found : (x y : Option ℕ) (c d v n : ℕ) → IsDigitOf c x → IsDigitOf d y → hex_escape (hex_byte x y) ≡ Some (v, n) → IsHexFound c d v n
unfolding IsDigitOf IsHexFound
hex_found None y c d v n h k e = absurd cc
hex_found (Some x) None c d v n h k e = absurd cc
hex_found (Some x) (Some y) c d v n h k e =
    ⊎_elim
    (λ (t : is_hex_escaped (x * 16 + y) ≡ true).
    let both = parts (x * 16 + y) 4 v n (sym (cond-true (is_hex_escaped (x * 16 + y)) _ _ t) ∙ e) in
    (sym both.1, h.2, k.2, ap byte_form (sym both.0) ∙ (hex_written (x * 16 + y) t ∙ hex_form-value x y c d h.0 k.0 h.1 k.1)))
    (λ (f : is_hex_escaped (x * 16 + y) ≡ false).
    let none : Path (Option (ℕ × ℕ)) None (Some (v, n)) = sym (cond-false (is_hex_escaped (x * 16 + y)) _ _ f) ∙ e in
    absurd cc)
    (cases_Bool (is_hex_escaped (x * 16 + y)))

IsNameFound : ℕ → ℕ → ℕ → Type 0
IsNameFound b v n = (n ≡ 2) × (0 < b) × (byte_form v ≡ 92 ∷ b ∷ [])

name_found : (b v n k : ℕ) → byte_form k ≡ 92 ∷ b ∷ [] → 0 < b → Path (Option (ℕ × ℕ)) (Some (k, 2)) (Some (v, n)) → IsNameFound b v n
unfolding IsNameFound
name_found b v n k form some e =
    let both = parts k 2 v n e in
    (sym both.1, some, ap byte_form (sym both.0) ∙ form)

IsEscapeFound : ℕ → ℕ → ℕ → ℕ → ℕ → Type 0
IsEscapeFound b c d v n = IsNameFound b v n ⊎ ((b ≡ 120) × IsHexFound c d v n)

by_letter : (b k v n : ℕ) (some rest : Option (ℕ × ℕ)) (G : Type 0)
    → (if b == k then some else rest) ≡ Some (v, n) → ((b ≡ k) → some ≡ Some (v, n) → G) → (rest ≡ Some (v, n) → G) → G
by_letter b k v n some rest G e f g =
    ⊎_elim
    (λ (t : (b == k) ≡ true). f (grind (arith, nat_tests)) (sym (cond-true (b == k) some rest t) ∙ e))
    (λ (t : (b == k) ≡ false). g (sym (cond-false (b == k) some rest t) ∙ e))
    (cases_Bool (b == k))

-- `\\` and a letter
by_name : (b k letter v n : ℕ) (rest : Option (ℕ × ℕ)) (G : Type 0) → byte_form k ≡ 92 ∷ letter ∷ [] → 0 < letter
    → (if b == letter then Some (k, 2) else rest) ≡ Some (v, n) → (IsNameFound b v n → G) → (rest ≡ Some (v, n) → G) → G
by_name b k letter v n rest G form some e f g =
    by_letter b letter v n (Some (k, 2)) rest G e
    (λ is h. let P : ℕ → Type 0 = λ m. IsNameFound m v n in f (subst P (sym is) (name_found letter v n k form some h)))
    g

escape_found : (b c d v n : ℕ) → escape b c d ≡ Some (v, n) → IsEscapeFound b c d v n
unfolding escape IsEscapeFound
escape_found b c d v n e =
    let G = IsEscapeFound b c d v n in
    by_name b 34 34 v n _ G refl (omega arith) e inl
    (λ e. by_name b 92 92 v n _ G refl (omega arith) e inl
    (λ e. by_name b 10 110 v n _ G refl (omega arith) e inl
    (λ e. by_name b 13 114 v n _ G refl (omega arith) e inl
    (λ e. by_name b 9 116 v n _ G refl (omega arith) e inl
    (λ e. by_letter b 120 v n (hex_escape (hex_byte (hex_value c) (hex_value d))) None G e
    (λ is h. inr (is, hex_found (hex_value c) (hex_value d) c d v n (digit_of_value c) (digit_of_value d) h))
    (λ h. absurd cc))))))

pub IsFormFound : ℕ → ℕ → ℕ → ℕ → ℕ → ℕ → Type 0
IsFormFound a b c d v n =
    ((n ≡ 1) × (0 < a) × (byte_form v ≡ a ∷ []))
    ⊎ ((a ≡ 92) × IsEscapeFound b c d v n)

plain_found : (a v n : ℕ) → a ≢ 92 → if◌then◌else◌ {A = Option (ℕ × ℕ)} (a == 34 || is_control a) None (Some (a, 1)) ≡ Some (v, n) → (n ≡ 1) × (0 < a) × (byte_form v ≡ a ∷ [])
plain_found a v n other e =
    ⊎_elim
    (λ (t : (a == 34 || is_control a) ≡ true).
    let none : Path (Option (ℕ × ℕ)) None (Some (v, n)) = sym (cond-true (a == 34 || is_control a) _ _ t) ∙ e in
    absurd cc)
    (λ (f : (a == 34 || is_control a) ≡ false).
    let both = parts a 1 v n (sym (cond-false (a == 34 || is_control a) _ _ f) ∙ e) in
    let itself : byte_form a ≡ a ∷ [] = grind (arith, nat_tests) in
    (sym both.1, grind (arith, nat_tests), ap byte_form (sym both.0) ∙ itself))
    (cases_Bool (a == 34 || is_control a))

form_found : (a b c d v n : ℕ) → form_of a b c d ≡ Some (v, n) → IsFormFound a b c d v n
unfolding form_of IsFormFound
form_found a b c d v n e =
    ⊎_elim
    (λ (t : (a == 92) ≡ true). inr (grind (arith, nat_tests), escape_found b c d v n (sym (cond-true (a == 92) (escape b c d) _ t) ∙ e)))
    (λ (f : (a == 92) ≡ false). let other : a ≢ 92 = grind (arith, nat_tests) in inl (plain_found a v n other (sym (cond-false (a == 92) (escape b c d) _ f) ∙ e)))
    (cases_Bool (a == 92))

front_of : (text : List ℕ) (v n : ℕ) → IsFormFound (get_or text 0 0) (get_or text 1 0) (get_or text 2 0) (get_or text 3 0) v n → IsFront text v n
unfolding IsFormFound IsEscapeFound IsNameFound IsHexFound
front_of [] v n h = ⊎_elim (λ h. absurd (omega (arith, h.1))) (λ h. absurd (omega (arith, h.0))) h
front_of (a ∷ []) v n h =
    ⊎_elim (λ h. record { some = omega (arith, h.0); within = omega (arith, h.0); split = rw (h.0, h.2) refl })
    (λ h. ⊎_elim (λ k. absurd (omega (arith, k.1))) (λ k. absurd (omega (arith, k.0))) h.1) h
front_of (a ∷ b ∷ []) v n h =
    ⊎_elim (λ h. record { some = omega (arith, h.0); within = omega (arith, h.0); split = rw (h.0, h.2) refl })
    (λ h. ⊎_elim (λ k. record { some = omega (arith, k.0); within = omega (arith, k.0); split = rw (k.0, k.2, h.0) refl }) (λ k. absurd (omega (arith, k.1.1))) h.1) h
front_of (a ∷ b ∷ c ∷ []) v n h =
    ⊎_elim (λ h. record { some = omega (arith, h.0); within = omega (arith, h.0); split = rw (h.0, h.2) refl })
    (λ h. ⊎_elim (λ k. record { some = omega (arith, k.0); within = omega (arith, k.0); split = rw (k.0, k.2, h.0) refl }) (λ k. absurd (omega (arith, k.1.2))) h.1) h
front_of (a ∷ b ∷ c ∷ d ∷ rest) v n h =
    ⊎_elim (λ h. record { some = omega (arith, h.0); within = omega (arith, h.0); split = rw (h.0, h.2) refl })
    (λ h. ⊎_elim (λ k. record { some = omega (arith, k.0); within = omega (arith, k.0); split = rw (k.0, k.2, h.0) refl }) (λ k. record { some = omega (arith, k.1.0); within = omega (arith, k.1.0); split = rw (k.1.0, k.1.3, h.0, k.0) refl }) h.1) h

pub front_is : (text : List ℕ) (v n : ℕ) → form_at text ≡ Some (v, n) → IsFront text v n
front_is text v n e = front_of text v n (form_found (get_or text 0 0) (get_or text 1 0) (get_or text 2 0) (get_or text 3 0) v n e)

-- ---- the loop over the forms

-- one more byte is read
pub forms_more : (bytes rest room : List ℕ) (count v n : ℕ) → bytes ≡ flat_map byte_form (take count room) ++ rest → form_at rest ≡ Some (v, n)
    → count < length room → bytes ≡ flat_map byte_form (take (count + 1) (set room count v)) ++ drop n rest
forms_more bytes rest room count v n told found within =
    let front = front_is rest v n found in
    let grown : flat_map byte_form (take (count + 1) (set room count v)) ≡ flat_map byte_form (take count room) ++ byte_form v =
    ap (flat_map byte_form) (take_more_set room count v within) ∙ (flat_map-append byte_form (take count room) (v ∷ []) ∙ ap (λ (l : List ℕ). flat_map byte_form (take count room) ++ l) (append-nil (byte_form v))) in
    told ∙ (ap (λ (l : List ℕ). flat_map byte_form (take count room) ++ l) front.split ∙ (sym (append_assoc (flat_map byte_form (take count room)) (byte_form v) (drop n rest)) ∙ ap (λ (l : List ℕ). l ++ drop n rest) (sym grown)))

none_of : (done w further rest more : List ℕ) (max : ℕ) → length w ≤ max → get_or rest 0 0 ≢ 34 → w ≡ done ++ further
    → rest ≡ flat_map byte_form further ++ 34 ∷ more → ((max ≤ length done) ⊎ (form_at rest ≡ None)) → ⊥
none_of done w [] rest more max short other whole e stop = other (ap (λ (l : List ℕ). get_or l 0 0) e)
none_of done w (b ∷ bs) rest more max short other whole e stop =
    ⊎_elim
    (λ h. omega (arith, ap length whole, length-append done (b ∷ bs)))
    (λ h. let found : Path (Option (ℕ × ℕ)) None (Some (b, length (byte_form b))) = sym h ∙ (ap form_at (e ∙ cut b bs (34 ∷ more)) ∙ form_at-form b (flat_map byte_form bs ++ 34 ∷ more)) in absurd cc)
    stop

-- no text of this length goes on from here
pub none_further : (done w rest more : List ℕ) (max : ℕ) → flat_map byte_form done ++ rest ≡ flat_map byte_form w ++ 34 ∷ more → length w ≤ max
    → get_or rest 0 0 ≢ 34 → ((max ≤ length done) ⊎ (form_at rest ≡ None)) → ⊥
none_further done w rest more max e short other stop =
    let split = forms_split done w rest more e in
    none_of done w split.0 rest more max short other split.1.0 split.1.1 stop

pub front_if : (text : List ℕ) (found : Option (ℕ × ℕ)) → found ≡ form_at text → IfSome found (λ p. IsFront text p.0 p.1)
front_if text None e = tt
front_if text (Some p) e = front_is text p.0 p.1 (sym e)

-- no text of this length goes on where no form stands
pub none_from_form : (done w rest more : List ℕ) (max : ℕ) → flat_map byte_form done ++ rest ≡ flat_map byte_form w ++ 34 ∷ more → length w ≤ max
    → get_or rest 0 0 ≢ 34 → form_at rest ≡ None → ⊥
none_from_form done w rest more max e short other none = none_further done w rest more max e short other (inr none)

-- the bytes between the quotes are the text's
pub same_text : (bytes : List ℕ) (at : ℕ) (text rest done more : List ℕ) → drop at bytes ≡ quoted text ++ rest → drop (at + 1) bytes ≡ flat_map byte_form done ++ 34 ∷ more → text ≡ done
same_text bytes at text rest done more told forms =
    (forms_law text done rest more (ap (drop 1) (sym (told ∙ quoted_split text rest)) ∙ (drop-drop 1 at bytes ∙ forms))).0

-- ---- a quoted form begins the bytes, or none does

-- the forms of a text of at most max bytes begin the bytes, up to a quote
SomeForms : ℕ → List ℕ → Type 0
SomeForms max bytes = (text : List ℕ) × ((rest : List ℕ) × ((length text ≤ max) × (bytes ≡ flat_map byte_form text ++ 34 ∷ rest)))

NoForms : ℕ → List ℕ → Type 0
NoForms max bytes = (text rest : List ℕ) → length text ≤ max → bytes ≡ flat_map byte_form text ++ 34 ∷ rest → ⊥

forms_here : (bytes : List ℕ) → (get_or bytes 0 0 == 34) ≡ true → (rest : List ℕ) × (bytes ≡ 34 ∷ rest)
forms_here [] h = absurd cc
forms_here (b ∷ bs) h = let is : b ≡ 34 = grind (arith, nat_tests) in (bs, ap (λ (n : ℕ). n ∷ bs) is)

not_here : (bytes : List ℕ) → (get_or bytes 0 0 == 34) ≡ false → get_or bytes 0 0 ≢ 34
not_here bytes h = grind (arith, nat_tests)

none_longer : (bytes text rest : List ℕ) (max v n : ℕ) → bytes ≡ byte_form v ++ drop n bytes → get_or bytes 0 0 ≢ 34 → NoForms max (drop n bytes)
    → length text ≤ suc max → bytes ≡ flat_map byte_form text ++ 34 ∷ rest → ⊥
unfolding NoForms
none_longer bytes [] rest max v n front other none short e = other (ap (λ (l : List ℕ). get_or l 0 0) e)
none_longer bytes (b ∷ bs) rest max v n front other none short e =
    let law = form_law v b (drop n bytes) (flat_map byte_form bs ++ 34 ∷ rest) (sym front ∙ (e ∙ cut b bs (34 ∷ rest))) in
    none bs rest (omega arith) law.1

forms_by : (bytes : List ℕ) (max : ℕ) (found : Option (ℕ × ℕ)) → form_at bytes ≡ found → get_or bytes 0 0 ≢ 34
    → ((n : ℕ) → SomeForms max (drop n bytes) ⊎ NoForms max (drop n bytes)) → SomeForms (suc max) bytes ⊎ NoForms (suc max) bytes
unfolding SomeForms NoForms
forms_by bytes max None e other further = inr (λ text rest short told. none_from_form [] text bytes rest (suc max) told short other e)
forms_by bytes max (Some p) e other further =
    let front = front_is bytes p.0 p.1 e in
    ⊎_elim
    (λ h. inl (p.0 ∷ h.0, (h.1.0, (omega (arith, h.1.1.0), front.split ∙ (ap (λ (l : List ℕ). byte_form p.0 ++ l) h.1.1.1 ∙ sym (cut p.0 h.0 (34 ∷ h.1.0)))))))
    (λ none. inr (λ text rest short told. none_longer bytes text rest max p.0 p.1 front.split other none short told))
    (further p.1)

forms_end : (bytes : List ℕ) → get_or bytes 0 0 ≢ 34 → NoForms 0 bytes
unfolding NoForms
forms_end bytes other [] rest short e = other (ap (λ (l : List ℕ). get_or l 0 0) e)
forms_end bytes other (b ∷ bs) rest short e = omega arith

forms_quote : (max : ℕ) (bytes : List ℕ) → (get_or bytes 0 0 == 34) ≡ true → SomeForms max bytes
unfolding SomeForms
forms_quote max bytes h = let here = forms_here bytes h in ([], (here.0, (omega arith, here.1)))

forms_decided : (max : ℕ) (bytes : List ℕ) → SomeForms max bytes ⊎ NoForms max bytes
forms_decided zero bytes =
    ⊎_elim
    (λ (h : (get_or bytes 0 0 == 34) ≡ true). inl (forms_quote 0 bytes h))
    (λ (h : (get_or bytes 0 0 == 34) ≡ false). inr (forms_end bytes (not_here bytes h)))
    (cases_Bool (get_or bytes 0 0 == 34))
forms_decided (suc max) bytes =
    ⊎_elim
    (λ (h : (get_or bytes 0 0 == 34) ≡ true). inl (forms_quote (suc max) bytes h))
    (λ (h : (get_or bytes 0 0 == 34) ≡ false). forms_by bytes max (form_at bytes) refl (not_here bytes h) (λ n. forms_decided max (drop n bytes)))
    (cases_Bool (get_or bytes 0 0 == 34))

quoted_of : (max : ℕ) (bytes inner w r : List ℕ) → bytes ≡ 34 ∷ inner → length w ≤ max → inner ≡ flat_map byte_form w ++ 34 ∷ r → IsUtf8 w → Unquotes max bytes w r
quoted_of max bytes inner w r here short e text =
    record { is_text = record { utf8 = text; short = short }; split = here ∙ (ap (λ (l : List ℕ). 34 ∷ l) e ∙ sym (quoted_split w r)) }

inside : (bytes inner text rest : List ℕ) → bytes ≡ 34 ∷ inner → bytes ≡ quoted text ++ rest → inner ≡ flat_map byte_form text ++ 34 ∷ rest
inside bytes inner text rest here told = ap (drop 1) (sym here ∙ (told ∙ quoted_split text rest))

quoted_by : (max : ℕ) (bytes inner : List ℕ) → bytes ≡ 34 ∷ inner → SomeForms max inner ⊎ NoForms max inner
    → ((text : List ℕ) × ((rest : List ℕ) × Unquotes max bytes text rest)) ⊎ BeginsNoQuoted max bytes
unfolding SomeForms NoForms
quoted_by max bytes inner here forms =
    ⊎_elim
    (λ h. ⊎_elim
    (λ (t : is_utf8 h.0 ≡ true). inl (h.0, (h.1.0, quoted_of max bytes inner h.0 h.1.0 here h.1.1.0 h.1.1.1 (IsUtf8-from_is_utf8 h.0 t))))
    (λ (f : is_utf8 h.0 ≡ false). inr (λ text rest form.
    let same = (forms_law text h.0 rest h.1.0 (sym (inside bytes inner text rest here form.split) ∙ h.1.1.1)).0 in
    let valid : is_utf8 h.0 ≡ true = is_utf8-from_IsUtf8 h.0 (subst IsUtf8 same form.is_text.utf8) in
    absurd cc))
    (cases_Bool (is_utf8 h.0)))
    (λ none. inr (λ text rest form. none text rest form.is_text.short (inside bytes inner text rest here form.split)))
    forms

pub quoted_is_decided : QuotedIsDecided
quoted_is_decided max bytes =
    ⊎_elim
    (λ (h : (get_or bytes 0 0 == 34) ≡ true). let here = forms_here bytes h in quoted_by max bytes here.0 here.1 (forms_decided max here.0))
    (λ (h : (get_or bytes 0 0 == 34) ≡ false). inr (λ text rest form. not_here bytes h (ap (λ (l : List ℕ). get_or l 0 0) form.split)))
    (cases_Bool (get_or bytes 0 0 == 34))
