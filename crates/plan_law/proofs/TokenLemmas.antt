-- One token, or what separates tokens, in front of a text.
use Rattle.std.proofs.Common.{◌≡◌, ℕ, ◌<◌, ◌^◌, Bool, true, false, ◌==◌, nat_lt, List, [], ◌∷◌, ◌++◌, length, get_or, refl, ap, subst, arith}
use Rattle.std.specs.Prelude.{pos, codes}
use Rattle.std.specs.Char.{is_ascii_digit}
use Rattle.std.specs.List.{prefix_len, list_all}
use Rattle.std.proofs.lemmas.Bool.Decides.{nat_tests}
use Rattle.std.proofs.lemmas.List.{append-nil}
use Rattle.std.proofs.Math.Numerals.{one-add}
use Rattle.std.proofs.Math.Seq.{take-append_seam}
use Rattle.join_base.specs.Integer.{value_of}
use Rattle.join_base.specs.Text.{begins_word, goes_on_word}
use Rattle.script_tokens.specs.declared.token.Kind.{Kind}
use Rattle.script_tokens.specs.declared.token.Kind.TheVariants as kind
use Rattle.script_tokens.specs.declared.token.Mark.{Mark}
use Rattle.script_tokens.specs.declared.token.Mark.TheVariants as m
use Rattle.script_tokens.specs.Tokens.{skip_from, skip, word_kind, number_kind, symbol_at, plain_at, is_bad, is_quote, is_blank}
use Rattle.plan_law.proofs.CutLemmas.{skipped_in_front, plain_in_front, is_below, first_true, second_true, utf8_by_test}
use Rattle.plan_law.proofs.LexedLemmas.{IsWord}
use Rattle.plan_law.proofs.WriteLemmas.{Writes, Any, Ends, Leads, Opens, Unequal, writes_both, writes_same, writes_then}

-- ---- blanks

-- bytes that are skipped
abbrev pub IsSkipped : List ℕ → Type 0
IsSkipped front = (rest : List ℕ) → skip (front ++ rest) ≡ skip rest

pub blank_writes : (front : List ℕ) → list_all is_below front ≡ true → IsSkipped front → Writes Any front []
blank_writes front low skipped = record { before = λ rest more p h. skipped_in_front front rest more (utf8_by_test front low) (skipped rest) h }

pub space_writes : Writes Any (codes " ") []
unfolding skip_from
space_writes = blank_writes (codes " ") refl (λ rest. refl)

pub two_spaces_write : Writes Any (codes "  ") []
two_spaces_write = writes_then space_writes space_writes

pub line_end_writes : Writes Any (10 ∷ []) []
unfolding skip_from
line_end_writes = blank_writes (10 ∷ []) refl (λ rest. refl)

-- ---- symbols

-- a mark stands in front of each text of which P holds
pub record IsMark (P : List ℕ → Type 0) (front : List ℕ) (a : Mark) : Type 0 where
  pub kept : (rest : List ℕ) → skip (front ++ rest) ≡ front ++ rest
  pub plain : (rest : List ℕ) → is_quote (get_or (front ++ rest) 0 0) ≡ false
  pub at : (rest : List ℕ) → P rest → plain_at (front ++ rest) ≡ (kind.Mark a, length front)

pub mark_writes : {P : List ℕ → Type 0} (front : List ℕ) (a : Mark) → list_all is_below front ≡ true → 0 < length front → IsMark P front a → Writes P front (kind.Mark a ∷ [])
mark_writes front a low some is = record { before = λ rest more p h. plain_in_front front rest (kind.Mark a) more (utf8_by_test front low) some (is.kept rest) (is.plain rest) (is.at rest p) refl h }

-- a mark of one byte that stands in front of any text
abbrev pub Symbol : ℕ → Mark → Type 0
Symbol b a = IsMark Any (b ∷ []) a

symbol_writes : (b : ℕ) (a : Mark) → is_below b ≡ true → Symbol b a → Writes Any (b ∷ []) (kind.Mark a ∷ [])
symbol_writes b a low is = mark_writes (b ∷ []) a (rw low refl) (omega arith) is

pub open_writes : Writes Any (codes "(") (kind.Mark m.Open ∷ [])
unfolding skip_from plain_at symbol_at
open_writes = symbol_writes 40 m.Open refl (record { kept = λ rest. refl; plain = λ rest. refl; at = λ rest p. refl })

pub close_writes : Writes Any (codes ")") (kind.Mark m.Close ∷ [])
unfolding skip_from plain_at symbol_at
close_writes = symbol_writes 41 m.Close refl (record { kept = λ rest. refl; plain = λ rest. refl; at = λ rest p. refl })

pub comma_writes : Writes Any (codes ",") (kind.Mark m.Comma ∷ [])
unfolding skip_from plain_at symbol_at
comma_writes = symbol_writes 44 m.Comma refl (record { kept = λ rest. refl; plain = λ rest. refl; at = λ rest p. refl })

pub colon_writes : Writes Any (codes ":") (kind.Mark m.Colon ∷ [])
unfolding skip_from plain_at symbol_at
colon_writes = symbol_writes 58 m.Colon refl (record { kept = λ rest. refl; plain = λ rest. refl; at = λ rest p. refl })

pub semicolon_writes : Writes Any (codes ";") (kind.Mark m.Semicolon ∷ [])
unfolding skip_from plain_at symbol_at
semicolon_writes = symbol_writes 59 m.Semicolon refl (record { kept = λ rest. refl; plain = λ rest. refl; at = λ rest p. refl })

pub open_brace_writes : Writes Any (codes "{") (kind.Mark m.OpenBrace ∷ [])
unfolding skip_from plain_at symbol_at
open_brace_writes = symbol_writes 123 m.OpenBrace refl (record { kept = λ rest. refl; plain = λ rest. refl; at = λ rest p. refl })

pub close_brace_writes : Writes Any (codes "}") (kind.Mark m.CloseBrace ∷ [])
unfolding skip_from plain_at symbol_at
close_brace_writes = symbol_writes 125 m.CloseBrace refl (record { kept = λ rest. refl; plain = λ rest. refl; at = λ rest p. refl })

pub plus_writes : Writes Any (codes "+") (kind.Mark m.Plus ∷ [])
unfolding skip_from plain_at symbol_at
plus_writes = symbol_writes 43 m.Plus refl (record { kept = λ rest. refl; plain = λ rest. refl; at = λ rest p. refl })

pub minus_writes : Writes Any (codes "-") (kind.Mark m.Minus ∷ [])
unfolding skip_from plain_at symbol_at
minus_writes = symbol_writes 45 m.Minus refl (record { kept = λ rest. refl; plain = λ rest. refl; at = λ rest p. refl })

pub not_writes : Writes Unequal (codes "!") (kind.Mark m.Not ∷ [])
unfolding skip_from plain_at symbol_at
not_writes = mark_writes (codes "!") m.Not refl (omega arith) (record { kept = λ rest. refl; plain = λ rest. refl; at = λ rest p. rw p.other refl })

-- ---- marks of which another may be a beginning

-- a text that begins with a space
pub record Spaced (rest : List ℕ) : Type 0 where
  pub other : List ℕ
  pub is : rest ≡ 32 ∷ other

pub space_leads : (text : List ℕ) (Q : List ℕ → Type 0) → Leads Spaced (codes " " ++ text) Q
space_leads text Q rest q = record { other = text ++ rest; is = refl }

pub with_writes : Writes Spaced (codes "&") (kind.Mark m.With ∷ [])
unfolding skip_from plain_at symbol_at
with_writes = mark_writes (codes "&") m.With refl (omega arith) (record { kept = λ rest. refl; plain = λ rest. refl; at = λ rest p. rw (p.is) refl })

pub and_writes : Writes Spaced (codes "&&") (kind.Mark m.And ∷ [])
unfolding skip_from plain_at symbol_at
and_writes = mark_writes (codes "&&") m.And refl (omega arith) (record { kept = λ rest. refl; plain = λ rest. refl; at = λ rest p. refl })

pub or_writes : Writes Spaced (codes "||") (kind.Mark m.Or ∷ [])
unfolding skip_from plain_at symbol_at
or_writes = mark_writes (codes "||") m.Or refl (omega arith) (record { kept = λ rest. refl; plain = λ rest. refl; at = λ rest p. refl })

pub equal_writes : Writes Spaced (codes "==") (kind.Mark m.Equal ∷ [])
unfolding skip_from plain_at symbol_at
equal_writes = mark_writes (codes "==") m.Equal refl (omega arith) (record { kept = λ rest. refl; plain = λ rest. refl; at = λ rest p. refl })

pub not_equal_writes : Writes Spaced (codes "!=") (kind.Mark m.NotEqual ∷ [])
unfolding skip_from plain_at symbol_at
not_equal_writes = mark_writes (codes "!=") m.NotEqual refl (omega arith) (record { kept = λ rest. refl; plain = λ rest. refl; at = λ rest p. refl })

pub less_writes : Writes Spaced (codes "<") (kind.Mark m.Less ∷ [])
unfolding skip_from plain_at symbol_at
less_writes = mark_writes (codes "<") m.Less refl (omega arith) (record { kept = λ rest. refl; plain = λ rest. refl; at = λ rest p. rw (p.is) refl })

pub less_equal_writes : Writes Spaced (codes "<=") (kind.Mark m.LessEqual ∷ [])
unfolding skip_from plain_at symbol_at
less_equal_writes = mark_writes (codes "<=") m.LessEqual refl (omega arith) (record { kept = λ rest. refl; plain = λ rest. refl; at = λ rest p. refl })

pub greater_writes : Writes Spaced (codes ">") (kind.Mark m.Greater ∷ [])
unfolding skip_from plain_at symbol_at
greater_writes = mark_writes (codes ">") m.Greater refl (omega arith) (record { kept = λ rest. refl; plain = λ rest. refl; at = λ rest p. rw (p.is) refl })

pub greater_equal_writes : Writes Spaced (codes ">=") (kind.Mark m.GreaterEqual ∷ [])
unfolding skip_from plain_at symbol_at
greater_equal_writes = mark_writes (codes ">=") m.GreaterEqual refl (omega arith) (record { kept = λ rest. refl; plain = λ rest. refl; at = λ rest p. refl })

-- a mark between spaces
pub between_spaces : {f : List ℕ} {ks : List Kind} → Writes Spaced f ks → Writes Any (codes " " ++ (f ++ codes " ")) ks
between_spaces {f} {ks} w = writes_then space_writes (writes_same (append-nil ks) (writes_both w (space_leads [] Any) space_writes))

-- ---- words

-- the bytes in front that pass a test, where the next byte does not
prefix_len-front : (p : ℕ → Bool) (xs ys : List ℕ) → list_all p xs ≡ true → p (get_or ys 0 0) ≡ false → prefix_len p (xs ++ ys) ≡ length xs
prefix_len-front p [] [] h e = refl
prefix_len-front p [] (y ∷ ys) h e = rw e refl
prefix_len-front p (x ∷ xs) ys h e =
    let first : p x ≡ true = first_true (p x) (list_all p xs) h in
    rw (first, prefix_len-front p xs ys (second_true (p x) (list_all p xs) h) e) (one-add (length xs))

-- bytes that pass a test of bytes below 128
low_all : (p : ℕ → Bool) → ((b : ℕ) → p b ≡ true → is_below b ≡ true) → (xs : List ℕ) → list_all p xs ≡ true → list_all is_below xs ≡ true
low_all p low [] h = refl
low_all p low (x ∷ xs) h = rw (low x (first_true (p x) (list_all p xs) h)) (low_all p low xs (second_true (p x) (list_all p xs) h))

word_low : (b : ℕ) → goes_on_word b ≡ true → is_below b ≡ true
word_low b e = grind (arith, nat_tests)

digit_low : (b : ℕ) → is_ascii_digit b ≡ true → is_below b ≡ true
digit_low b e = grind (arith, nat_tests)

-- a text that begins with the byte of a word or of a number is not skipped
kept : (b : ℕ) (bs : List ℕ) → goes_on_word b ≡ true → skip (b ∷ bs) ≡ b ∷ bs
unfolding skip_from
kept b bs e =
    let slash : (b == 47) ≡ false = grind (arith, nat_tests) in
    let blank : is_blank b ≡ false = grind (arith, nat_tests) in
    rw (slash, blank) refl

not_quote : (b : ℕ) → goes_on_word b ≡ true → is_quote b ≡ false
not_quote b e = grind (arith, nat_tests)

begins_on : (b : ℕ) → begins_word b ≡ true → goes_on_word b ≡ true
begins_on b e = rw e refl

digit_on : (b : ℕ) → is_ascii_digit b ≡ true → (begins_word b ≡ false) × (goes_on_word b ≡ true)
digit_on b e = (grind (arith, nat_tests), grind (arith, nat_tests))

no_digit : (b : ℕ) → goes_on_word b ≡ false → is_ascii_digit b ≡ false
no_digit b e = grind (arith, nat_tests)

-- the token at the front is the word
word_at-front : (w rest : List ℕ) → list_all goes_on_word w ≡ true → begins_word (get_or (w ++ rest) 0 0) ≡ true → Ends rest → plain_at (w ++ rest) ≡ (word_kind w, length w)
unfolding plain_at
word_at-front w rest all begins ends = rw (begins, prefix_len-front goes_on_word w rest all ends.ends, take-append_seam w rest) refl

-- a word in front of what does not go on with it
pub word_writes : (w : List ℕ) → begins_word (get_or w 0 0) ≡ true → list_all goes_on_word w ≡ true → is_bad (word_kind w) ≡ false → Writes Ends w (word_kind w ∷ [])
word_writes [] begins all good = absurd cc
word_writes (b ∷ bs) begins all good = record {
  before = λ rest more ends h.
      plain_in_front (b ∷ bs) rest (word_kind (b ∷ bs)) more (utf8_by_test (b ∷ bs) (low_all goes_on_word word_low (b ∷ bs) all)) (omega arith) (kept b (bs ++ rest) (begins_on b begins))
      (not_quote b (begins_on b begins)) (word_at-front (b ∷ bs) rest all begins ends) good h;
}

-- a name
pub name_writes : (w : List ℕ) → IsWord w → Writes Ends w (kind.Name w ∷ [])
name_writes w h = subst (λ (k : Kind). Writes Ends w (k ∷ [])) h.is_name (word_writes w h.begins h.goes_on (ap is_bad h.is_name))

-- neither a word nor a number begins with `=`
pub on_opens : (w : List ℕ) → goes_on_word (get_or w 0 0) ≡ true → Opens w
on_opens [] on = absurd cc
on_opens (b ∷ bs) on = record { opens = λ rest. record { other = unequal b on } }
  where
    unequal : (b : ℕ) → goes_on_word b ≡ true → (b == 61) ≡ false
    unequal b on = grind (arith, nat_tests)

pub name_opens : (w : List ℕ) → IsWord w → Opens w
name_opens w h = on_opens w (begins_on (get_or w 0 0) h.begins)

pub digits_open : (ds : List ℕ) → list_all is_ascii_digit ds ≡ true → 0 < length ds → Opens ds
digits_open [] all some = absurd (omega arith)
digits_open (b ∷ bs) all some = on_opens (b ∷ bs) ((digit_on b (first_true (is_ascii_digit b) (list_all is_ascii_digit bs) all)).1)

-- a word that is a mark
pub record IsKeyword (w : List ℕ) (a : Mark) : Type 0 where
  pub begins : begins_word (get_or w 0 0) ≡ true
  pub goes_on : list_all goes_on_word w ≡ true
  pub is_mark : word_kind w ≡ kind.Mark a

pub keyword_writes : (w : List ℕ) (a : Mark) → IsKeyword w a → Writes Ends w (kind.Mark a ∷ [])
keyword_writes w a h = subst (λ (k : Kind). Writes Ends w (k ∷ [])) h.is_mark (word_writes w h.begins h.goes_on (ap is_bad h.is_mark))

-- a keyword and a space
pub keyword_space_writes : (w : List ℕ) (a : Mark) → IsKeyword w a → Writes Any (w ++ codes " ") (kind.Mark a ∷ [])
keyword_space_writes w a h = writes_both (keyword_writes w a h) (λ rest p. record { ends = refl }) space_writes

pub message_is : IsKeyword (codes "message") m.Message
unfolding word_kind
message_is = record { begins = refl; goes_on = refl; is_mark = refl }

pub actor_is : IsKeyword (codes "actor") m.Actor
unfolding word_kind
actor_is = record { begins = refl; goes_on = refl; is_mark = refl }

pub when_is : IsKeyword (codes "when") m.When
unfolding word_kind
when_is = record { begins = refl; goes_on = refl; is_mark = refl }

pub if_is : IsKeyword (codes "if") m.If
unfolding word_kind
if_is = record { begins = refl; goes_on = refl; is_mark = refl }

pub print_is : IsKeyword (codes "print") m.Print
unfolding word_kind
print_is = record { begins = refl; goes_on = refl; is_mark = refl }

pub post_is : IsKeyword (codes "post") m.Post
unfolding word_kind
post_is = record { begins = refl; goes_on = refl; is_mark = refl }

pub within_is : IsKeyword (codes "within") m.Within
unfolding word_kind
within_is = record { begins = refl; goes_on = refl; is_mark = refl }

pub reply_is : IsKeyword (codes "reply") m.Reply
unfolding word_kind
reply_is = record { begins = refl; goes_on = refl; is_mark = refl }

pub stop_is : IsKeyword (codes "stop") m.Stop
unfolding word_kind
stop_is = record { begins = refl; goes_on = refl; is_mark = refl }

pub int_is : IsKeyword (codes "int") m.Int
unfolding word_kind
int_is = record { begins = refl; goes_on = refl; is_mark = refl }

pub text_is : IsKeyword (codes "text") m.Text
unfolding word_kind
text_is = record { begins = refl; goes_on = refl; is_mark = refl }

pub blank_is : IsKeyword (codes "_") m.Blank
unfolding word_kind
blank_is = record { begins = refl; goes_on = refl; is_mark = refl }

-- ---- numbers and texts

-- the token at the front is the number
number_at-front : (ds rest : List ℕ) → list_all is_ascii_digit ds ≡ true → is_ascii_digit (get_or (ds ++ rest) 0 0) ≡ true → Ends rest → plain_at (ds ++ rest) ≡ (number_kind (value_of ds), length ds)
unfolding plain_at
number_at-front ds rest all digit ends =
    let no_word : begins_word (get_or (ds ++ rest) 0 0) ≡ false = (digit_on (get_or (ds ++ rest) 0 0) digit).0 in
    rw (no_word, digit, prefix_len-front is_ascii_digit ds rest all (no_digit (get_or rest 0 0) ends.ends), take-append_seam ds rest) refl

-- digits in front of what is no byte of a word
pub digits_write : (ds : List ℕ) → list_all is_ascii_digit ds ≡ true → 0 < length ds → value_of ds < 2 ^ 63 → Writes Ends ds (kind.Number (pos (value_of ds)) ∷ [])
digits_write [] all some small = absurd (omega arith)
digits_write (b ∷ bs) all some small =
    let digit : is_ascii_digit b ≡ true = first_true (is_ascii_digit b) (list_all is_ascii_digit bs) all in
    let test : nat_lt (value_of (b ∷ bs)) (2 ^ 63) ≡ true = grind (arith, nat_tests) in
    let is : number_kind (value_of (b ∷ bs)) ≡ kind.Number (pos (value_of (b ∷ bs))) = rw test refl in
    subst (λ (k : Kind). Writes Ends (b ∷ bs) (k ∷ [])) is (record {
      before = λ rest more ends h.
          plain_in_front (b ∷ bs) rest (number_kind (value_of (b ∷ bs))) more (utf8_by_test (b ∷ bs) (low_all is_ascii_digit digit_low (b ∷ bs) all)) (omega arith)
          (kept b (bs ++ rest) (digit_on b digit).1) (not_quote b (digit_on b digit).1) (number_at-front (b ∷ bs) rest all digit ends) (ap is_bad is) h;
    })
