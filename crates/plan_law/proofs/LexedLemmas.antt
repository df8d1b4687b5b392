-- What the tokens of a text are made of.
use Rattle.std.proofs.Common.{◌≡◌, ℕ, ◌<◌, ◌^◌, Bool, true, false, ◌==◌, ◌&&◌, nat_lt, nat_le, List, [], ◌∷◌, ◌++◌, length, take, get_or, refl, sym, subst, ⊎_elim, arith}
use Rattle.std.specs.Prelude.{ℤ, pos, MatchBool, if◌then◌else◌, codes}
use Rattle.std.specs.Char.{is_ascii_digit}
use Rattle.std.specs.List.{prefix_len, list_all, AllByRecursion}
use Rattle.std.specs.Str.{bytes_eq}
use Rattle.std.proofs.lemmas.Bool.{cases_Bool}
use Rattle.std.proofs.Math.Numerals.{one-add}
use Rattle.std.proofs.lemmas.Bool.Decides.{nat_tests}
use Rattle.join_base.specs.Integer.{value_of}
use Rattle.join_base.specs.Text.{IsText, begins_word, goes_on_word}
use Rattle.script_tokens.specs.declared.token.Kind.{Kind}
use Rattle.script_tokens.specs.declared.token.Kind.TheVariants as kind
use Rattle.script_tokens.specs.declared.token.Mark.{Mark}
use Rattle.script_tokens.specs.declared.token.Token.{Token}
use Rattle.script_tokens.specs.Tokens.{skip, word_kind, number_kind, symbol_at, plain_at, is_bad, is_quote, IsPlainToken, IsQuotedToken, AreTokens}
use Rattle.script_tokens.proofs.WordLemmas.{word_in_front}
use Rattle.script_check.proofs.SmallLemmas.{each_left, each_right}

-- a word that is a name
pub record IsWord (w : List ℕ) : Type 0 where
  pub is_name : word_kind w ≡ kind.Name w
  pub begins : begins_word (get_or w 0 0) ≡ true
  pub goes_on : list_all goes_on_word w ≡ true

-- a number of at most 63 bits
pub record IsNumber (z : ℤ) : Type 0 where
  pub value : ℕ
  pub is : z ≡ pos value
  pub small : value < 2 ^ 63

-- what a token of a text may be
abbrev pub IsLexed : Kind → Type 0
IsLexed (kind.Mark a) = Unit {0}
IsLexed (kind.Name w) = IsWord w
IsLexed (kind.Number z) = IsNumber z
IsLexed (kind.Words text) = IsText 120 text
IsLexed kind.Bad = Unit {0}

abbrev pub AreLexed : List Token → Type 0
AreLexed tokens = AllByRecursion (λ (t : Token). IsLexed t.kind) tokens

-- ---- words

by_test : (P : Kind → Type 0) (b : Bool) (k l : Kind) → P k → P l → P (if b then k else l)
by_test P true k l h i = h
by_test P false k l h i = i

-- a word is a mark, a name or nothing
word_kind_by : (P : Kind → Type 0) (w : List ℕ) → ((a : Mark) → P (kind.Mark a)) → P (kind.Name w) → P kind.Bad → P (word_kind w)
unfolding word_kind
word_kind_by P w mark name bad =
    by_test P (bytes_eq w (codes "message")) _ _ (mark _) (
    by_test P (bytes_eq w (codes "actor")) _ _ (mark _) (
    by_test P (bytes_eq w (codes "when")) _ _ (mark _) (
    by_test P (bytes_eq w (codes "if")) _ _ (mark _) (
    by_test P (bytes_eq w (codes "print")) _ _ (mark _) (
    by_test P (bytes_eq w (codes "post")) _ _ (mark _) (
    by_test P (bytes_eq w (codes "stop")) _ _ (mark _) (
    by_test P (bytes_eq w (codes "int")) _ _ (mark _) (
    by_test P (bytes_eq w (codes "text")) _ _ (mark _) (
    by_test P (bytes_eq w (codes "within")) _ _ (mark _) (
    by_test P (bytes_eq w (codes "reply")) _ _ (mark _) (
    by_test P (bytes_eq w (codes "_")) _ _ (mark _) (
    by_test P (nat_le (length w) 64) _ _ name bad))))))))))))

word_lexed : (w : List ℕ) → begins_word (get_or w 0 0) ≡ true → list_all goes_on_word w ≡ true → IsLexed (word_kind w)
word_lexed w begins goes_on =
    let P : Kind → Type 0 = λ k. word_kind w ≡ k → IsLexed k in
    word_kind_by P w (λ a e. tt) (λ e. record { is_name = e; begins = begins; goes_on = goes_on }) (λ e. tt) refl

-- a text that begins with a word's first byte begins with a word
begins_front : (text : List ℕ) → begins_word (get_or text 0 0) ≡ true → begins_word (get_or (take (prefix_len goes_on_word text) text) 0 0) ≡ true
begins_front [] e = absurd cc
begins_front (b ∷ bs) e = let on : goes_on_word b ≡ true = rw e refl in rw (on, one-add) e

-- ---- numbers and symbols

number_lexed : (v : ℕ) → IsLexed (number_kind v)
number_lexed v =
    ⊎_elim
    (λ (e : nat_lt v (2 ^ 63) ≡ true). let small : v < 2 ^ 63 = grind (arith, nat_tests) in rw e (record { value = v; is = refl; small = small }))
    (λ (e : nat_lt v (2 ^ 63) ≡ false). rw e tt)
    (cases_Bool (nat_lt v (2 ^ 63)))

either_lexed : (b : Bool) (p q : Kind × ℕ) → IsLexed p.0 → IsLexed q.0 → IsLexed ((if b then p else q).0)
either_lexed true p q h i = h
either_lexed false p q h i = i

symbol_lexed : (a b : ℕ) → IsLexed ((symbol_at a b).0)
unfolding symbol_at
symbol_lexed a b =
    either_lexed (a == 123) _ _ tt (
    either_lexed (a == 125) _ _ tt (
    either_lexed (a == 40) _ _ tt (
    either_lexed (a == 41) _ _ tt (
    either_lexed (a == 44) _ _ tt (
    either_lexed (a == 58) _ _ tt (
    either_lexed (a == 59) _ _ tt (
    either_lexed (a == 43) _ _ tt (
    either_lexed (a == 45) _ _ tt (
    either_lexed (a == 38) _ _ (either_lexed (b == 38) _ _ tt tt) (
    either_lexed (a == 33) _ _ (either_lexed (b == 61) _ _ tt tt) (
    either_lexed (a == 60) _ _ (either_lexed (b == 61) _ _ tt tt) (
    either_lexed (a == 62) _ _ (either_lexed (b == 61) _ _ tt tt) (
    either_lexed (a == 124 && b == 124) _ _ tt (
    either_lexed (a == 61 && b == 61) _ _ tt tt))))))))))))))

-- ---- a token, and the tokens of a text

-- the word, number or symbol at the front of a text
plain_lexed : (text : List ℕ) → IsLexed ((plain_at text).0)
unfolding plain_at
plain_lexed text =
    ⊎_elim
    (λ (e : begins_word (get_or text 0 0) ≡ true). rw e (word_lexed (take (prefix_len goes_on_word text) text) (begins_front text e) (word_in_front text (prefix_len goes_on_word text) refl)))
    (λ (e : begins_word (get_or text 0 0) ≡ false). rw e (⊎_elim
    (λ (d : is_ascii_digit (get_or text 0 0) ≡ true). rw d (number_lexed (value_of (take (prefix_len is_ascii_digit text) text))))
    (λ (d : is_ascii_digit (get_or text 0 0) ≡ false). rw d (symbol_lexed (get_or text 0 0) (get_or text 1 0)))
    (cases_Bool (is_ascii_digit (get_or text 0 0)))))
    (cases_Bool (begins_word (get_or text 0 0)))

quoted_lexed : (text : List ℕ) (k : Kind) (rest : List ℕ) → IsQuotedToken text k rest → IsLexed k
quoted_lexed text (kind.Words w) rest h = h.is_text
quoted_lexed text kind.Bad rest h = tt
quoted_lexed text (kind.Mark a) rest h = absurd h
quoted_lexed text (kind.Name n) rest h = absurd h
quoted_lexed text (kind.Number n) rest h = absurd h

token_lexed : (b : Bool) (text : List ℕ) (k : Kind) (rest : List ℕ) → MatchBool b (IsQuotedToken text k rest) (IsPlainToken text k rest) → IsLexed k
token_lexed true text k rest h = quoted_lexed text k rest h
token_lexed false text k rest h = subst IsLexed (sym h.0) (plain_lexed text)

further_lexed : (b : Bool) (P : Type 0) (ts : List Token) → MatchBool b (ts ≡ []) P → (P → AreLexed ts) → AreLexed ts
further_lexed true P ts h f = subst AreLexed (sym h) tt
further_lexed false P ts h f = f h

-- the tokens of a text are what tokens may be
pub tokens_lexed : (size : ℕ) (text : List ℕ) (ts : List Token) → AreTokens size text ts → AreLexed ts
tokens_lexed size text [] h = tt
tokens_lexed size text (t ∷ ts) h = (
  token_lexed (is_quote (get_or (skip text) 0 0)) (skip text) t.kind h.2.0 h.2.1.0,
  further_lexed (is_bad t.kind) (AreTokens size h.2.0 ts) ts h.2.1.1 (λ more. tokens_lexed size h.2.0 ts more),
)

-- ---- parts of a list of tokens

pub lexed_front : (ts front back : List Token) → ts ≡ front ++ back → AreLexed ts → AreLexed front
lexed_front ts front back e h = each_left (λ (t : Token). IsLexed t.kind) front back (subst AreLexed e h)

pub lexed_back : (ts front back : List Token) → ts ≡ front ++ back → AreLexed ts → AreLexed back
lexed_back ts front back e h = each_right (λ (t : Token). IsLexed t.kind) front back (subst AreLexed e h)
