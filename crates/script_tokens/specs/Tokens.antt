-- The tokens of a text: at each place the longest one is taken.
use Rattle.std.specs.Prelude.{◌≡◌, ℕ, ◌+◌, ◌^◌, ◌<◌, ◌≤◌, pos, Bool, true, false, not, ◌&&◌, ◌||◌, ◌==◌, nat_lt, nat_le, if◌then◌else◌, List, [], ◌∷◌, ◌++◌, length, take, drop, codes, slice_index, MatchBool}
use Rattle.std.specs.List.{prefix_len}
use Rattle.std.specs.Str.{bytes_eq}
use Rattle.std.specs.Char.{is_ascii_digit}
use Rattle.join_base.specs.Integer.{value_of}
use Rattle.join_base.specs.Quoted.{Unquotes, BeginsNoQuoted}
use Rattle.join_base.specs.Text.{begins_word, goes_on_word}
use Rattle.script_tokens.specs.declared.token.Mark.TheVariants as m
use Rattle.script_tokens.specs.declared.token.Kind.{Kind}
use Rattle.script_tokens.specs.declared.token.Kind.TheVariants as kind
use Rattle.script_tokens.specs.declared.token.Token.{Token}

-- ---- what separates tokens

-- a space, a tab, CR or LF
abbrev pub is_blank : ℕ → Bool
is_blank b = b == 32 || (b == 9 || (b == 13 || b == 10))

-- the text behind blanks and comments, where a comment may have begun
unfoldable pub skip_from : Bool → List ℕ → List ℕ
skip_from inside [] = []
skip_from true (b ∷ bs) = skip_from (not (b == 10)) bs
skip_from false (b ∷ bs) =
    if b == 47 && slice_index bs 0 == 47 then skip_from true bs
    else if is_blank b then skip_from false bs
    else b ∷ bs

abbrev pub skip : List ℕ → List ℕ
skip text = skip_from false text

-- ---- words and numbers

-- a keyword, the blank, or a name
unfoldable pub word_kind : List ℕ → Kind
word_kind w =
    if bytes_eq w (codes "message") then kind.Mark m.Message
    else if bytes_eq w (codes "actor") then kind.Mark m.Actor
    else if bytes_eq w (codes "when") then kind.Mark m.When
    else if bytes_eq w (codes "if") then kind.Mark m.If
    else if bytes_eq w (codes "print") then kind.Mark m.Print
    else if bytes_eq w (codes "post") then kind.Mark m.Post
    else if bytes_eq w (codes "stop") then kind.Mark m.Stop
    else if bytes_eq w (codes "int") then kind.Mark m.Int
    else if bytes_eq w (codes "text") then kind.Mark m.Text
    else if bytes_eq w (codes "within") then kind.Mark m.Within
    else if bytes_eq w (codes "reply") then kind.Mark m.Reply
    else if bytes_eq w (codes "_") then kind.Mark m.Blank
    else if nat_le (length w) 64 then kind.Name w
    else kind.Bad

-- a number of at most 63 bits
abbrev pub number_kind : ℕ → Kind
number_kind value = if nat_lt value (2 ^ 63) then kind.Number (pos value) else kind.Bad

-- ---- symbols

-- a symbol of one byte, or of two where the second goes on with it; and its length
unfoldable pub symbol_at : ℕ → ℕ → Kind × ℕ
symbol_at a b =
    if a == 123 then (kind.Mark m.OpenBrace, 1)
    else if a == 125 then (kind.Mark m.CloseBrace, 1)
    else if a == 40 then (kind.Mark m.Open, 1)
    else if a == 41 then (kind.Mark m.Close, 1)
    else if a == 44 then (kind.Mark m.Comma, 1)
    else if a == 58 then (kind.Mark m.Colon, 1)
    else if a == 59 then (kind.Mark m.Semicolon, 1)
    else if a == 43 then (kind.Mark m.Plus, 1)
    else if a == 45 then (kind.Mark m.Minus, 1)
    else if a == 38 then (if b == 38 then (kind.Mark m.And, 2) else (kind.Mark m.With, 1))
    else if a == 33 then (if b == 61 then (kind.Mark m.NotEqual, 2) else (kind.Mark m.Not, 1))
    else if a == 60 then (if b == 61 then (kind.Mark m.LessEqual, 2) else (kind.Mark m.Less, 1))
    else if a == 62 then (if b == 61 then (kind.Mark m.GreaterEqual, 2) else (kind.Mark m.Greater, 1))
    else if a == 124 && b == 124 then (kind.Mark m.Or, 2)
    else if a == 61 && b == 61 then (kind.Mark m.Equal, 2)
    else (kind.Bad, 1)

-- ---- the token at the front of a text

abbrev pub word_at : List ℕ → Kind × ℕ
word_at text = let n = prefix_len goes_on_word text in (word_kind (take n text), n)

abbrev pub number_at : List ℕ → Kind × ℕ
number_at text = let n = prefix_len is_ascii_digit text in (number_kind (value_of (take n text)), n)

-- the word, number or symbol at the front, and its length; `Bad` where none begins there
unfoldable pub plain_at : List ℕ → Kind × ℕ
plain_at text =
    let first = slice_index text 0 in
    if begins_word first then word_at text
    else if is_ascii_digit first then number_at text
    else symbol_at first (slice_index text 1)

abbrev pub IsPlainToken : List ℕ → Kind → List ℕ → Type 0
IsPlainToken text kind rest = (kind ≡ (plain_at text).0) × (rest ≡ drop ((plain_at text).1) text)

-- a quoted text of at most 120 bytes; `Bad` where none begins there
abbrev pub IsQuotedToken : List ℕ → Kind → List ℕ → Type 0
IsQuotedToken text (kind.Words words) rest = Unquotes 120 text words rest
IsQuotedToken text kind.Bad rest = BeginsNoQuoted 120 text × (rest ≡ [])
IsQuotedToken text (kind.Mark mark) rest = ⊥
IsQuotedToken text (kind.Name name) rest = ⊥
IsQuotedToken text (kind.Number value) rest = ⊥

abbrev pub is_quote : ℕ → Bool
is_quote b = b == 34

-- the longest token at the front of a text, and the text behind it
abbrev pub IsToken : List ℕ → Kind → List ℕ → Type 0
IsToken text kind rest = MatchBool (is_quote (slice_index text 0)) (IsQuotedToken text kind rest) (IsPlainToken text kind rest)

-- ---- the tokens of a text

abbrev pub is_bad : Kind → Bool
is_bad (kind.Mark mark) = false
is_bad (kind.Name name) = false
is_bad (kind.Number value) = false
is_bad (kind.Words text) = false
is_bad kind.Bad = true

-- The tokens of what is left of a text of this size, each with its place. Where no token begins, the last one is `Bad`.
abbrev pub AreTokens : ℕ → List ℕ → List Token → Type 0
AreTokens size text [] = skip text ≡ []
AreTokens size text (t ∷ ts) =
    (0 < length (skip text)) × (t.place + length (skip text) ≡ size)
    × ((rest : List ℕ) × (IsToken (skip text) t.kind rest × MatchBool (is_bad t.kind) (ts ≡ []) (AreTokens size rest ts)))

-- the tokens of a text are these and then those of the rest
abbrev pub AreFront : List ℕ → List Token → List ℕ → Type 0
AreFront text tokens rest = (more : List Token) → AreTokens (length text) rest more → AreTokens (length text) text (tokens ++ more)

-- each text that is left of one of this size has tokens
abbrev pub SomeList : Type 0
SomeList = (size : ℕ) (text : List ℕ) → length text ≤ size → (tokens : List Token) × AreTokens size text tokens

-- a text has one list of tokens
abbrev pub OneList : Type 0
OneList = (text : List ℕ) (tokens other : List Token) → AreTokens (length text) text tokens → AreTokens (length text) text other → tokens ≡ other
