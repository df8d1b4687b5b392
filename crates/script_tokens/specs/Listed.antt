-- The tokens of a text as a list: what is left to read.
use Rattle.std.specs.Prelude.{ℕ, zero, suc, ◌-◌, List, [], ◌∷◌, length, drop, Option, Some, None, if◌then◌else◌, slice_index}
use Rattle.std.specs.Str.{is_utf8}
use Rattle.join_base.specs.Unquoted.{form_at}
use Rattle.script_tokens.specs.declared.token.Kind.{Kind}
use Rattle.script_tokens.specs.declared.token.Kind.TheVariants as kind
use Rattle.script_tokens.specs.declared.token.Token.{Token}
use Rattle.script_tokens.specs.Tokens.{skip, plain_at, is_quote, is_bad}

-- ---- the token in front

-- a text that was read, and what stands behind it
abbrev pub Read : Type 0
Read = List ℕ × List ℕ

abbrev pub with_byte : ℕ → Option Read → Option Read
with_byte b None = None
with_byte b (Some p) = Some (b ∷ p.0, p.1)

abbrev pub with_form : Option (ℕ × ℕ) → (ℕ → Option Read) → Option Read
with_form None further = None
with_form (Some p) further = with_byte p.0 (further p.1)

-- the text of at most `max` bytes whose forms stand in front of a quote, and what stands behind the quote
unfoldable pub forms_until : ℕ → List ℕ → Option Read
forms_until zero bytes = if is_quote (slice_index bytes 0) then Some ([], drop 1 bytes) else None
forms_until (suc max) bytes =
    if is_quote (slice_index bytes 0) then Some ([], drop 1 bytes)
    else with_form (form_at bytes) (λ size. forms_until max (drop size bytes))

abbrev pub quoted_by : Option Read → Kind × List ℕ
quoted_by None = (kind.Bad, [])
quoted_by (Some p) = if is_utf8 p.0 then (kind.Words p.0, p.1) else (kind.Bad, [])

-- the token at the front of a text, and the text behind it
unfoldable pub token_in : List ℕ → Kind × List ℕ
token_in text =
    if is_quote (slice_index text 0) then quoted_by (forms_until 120 (drop 1 text))
    else ((plain_at text).0, drop ((plain_at text).1) text)

-- ---- all tokens

-- a token of a text of this size, and those behind it; none behind one that is `Bad`
abbrev pub token_and : ℕ → List ℕ → Kind × List ℕ → (List ℕ → List Token) → List Token
token_and size front t more = record { place = size - length front; kind = t.0 } ∷ (if is_bad t.0 then [] else more t.1)

abbrev pub from_front : ℕ → List ℕ → (List ℕ → List Token) → List Token
from_front size [] more = []
from_front size (b ∷ bs) more = token_and size (b ∷ bs) (token_in (b ∷ bs)) more

-- at most so many tokens of what is left of a text of this size
unfoldable pub tokens_by : ℕ → ℕ → List ℕ → List Token
tokens_by zero size text = []
tokens_by (suc n) size text = from_front size (skip text) (tokens_by n size)

-- the tokens of what is left of a text of this size: each takes a byte at least
unfoldable pub tokens_of : ℕ → List ℕ → List Token
tokens_of size text = tokens_by (length text) size text

-- the next token, and those of what stands behind it
abbrev pub tokens_left : Option Token → ℕ → List ℕ → List Token
tokens_left None size rest = []
tokens_left (Some t) size rest = t ∷ (if is_bad t.kind then [] else tokens_of size rest)

-- the name that a token is
abbrev pub kind_name : Kind → Option (List ℕ)
kind_name (kind.Name name) = Some name
kind_name (kind.Mark mark) = None
kind_name (kind.Number value) = None
kind_name (kind.Words text) = None
kind_name kind.Bad = None

-- the name that the next token is
abbrev pub next_name : List Token → Option (List ℕ)
next_name [] = None
next_name (t ∷ ts) = kind_name t.kind

-- the next token
abbrev pub head : {T : Type 0} → List T → Option T
head [] = None
head (t ∷ ts) = Some t

-- the name that a token is, or else its bytes
abbrev pub name_or : List ℕ → Kind → List ℕ
name_or word (kind.Name name) = name
name_or word (kind.Mark mark) = word
name_or word (kind.Number value) = word
name_or word (kind.Words text) = word
name_or word kind.Bad = word

abbrev pub next_word : List ℕ → Option Token → List ℕ
next_word word None = word
next_word word (Some t) = name_or word t.kind
