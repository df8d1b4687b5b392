-- The quoted form of a text: each text has one, and a quoted form begins no longer one.
use Rattle.std.specs.Prelude.{◌≡◌, ◌⊎◌, ℕ, ◌/◌, ◌%◌, List, [], ◌∷◌, ◌++◌, Bool, false, ◌||◌, ◌==◌, nat_lt, if◌then◌else◌}
use Rattle.std.specs.List.{flat_map}
use Rattle.std.specs.Fmt.{digit_glyph}
use Rattle.join_base.specs.Text.{IsText}

-- a byte that stands for no character of its own: below a space, and 127
abbrev pub is_control : ℕ → Bool
is_control b = nat_lt b 0x20 || b == 0x7F

-- `\x` and two lower-case hexadecimal digits
abbrev pub hex_form : ℕ → List ℕ
hex_form b = 92 ∷ 120 ∷ digit_glyph false (b / 16) ∷ digit_glyph false (b % 16) ∷ []

-- how a byte is written between the quotes: `\"`, `\\`, `\n`, `\r`, `\t`, `\xhh`, or as itself
abbrev pub byte_form : ℕ → List ℕ
byte_form b =
    if b == 34 then 92 ∷ 34 ∷ []
    else (if b == 92 then 92 ∷ 92 ∷ []
    else (if b == 10 then 92 ∷ 110 ∷ []
    else (if b == 13 then 92 ∷ 114 ∷ []
    else (if b == 9 then 92 ∷ 116 ∷ []
    else (if is_control b then hex_form b else b ∷ [])))))

-- the text between two quotes
abbrev pub quoted : List ℕ → List ℕ
quoted text = 34 ∷ (flat_map byte_form text ++ 34 ∷ [])

-- the bytes are the quoted form of a text of at most max bytes, and then the rest
pub record Unquotes (max : ℕ) (bytes text rest : List ℕ) : Type 0 where
  pub is_text : IsText max text
  pub split : bytes ≡ quoted text ++ rest

-- no quoted form of a text of at most max bytes begins the bytes
abbrev pub BeginsNoQuoted : ℕ → List ℕ → Type 0
BeginsNoQuoted max bytes = (text rest : List ℕ) → Unquotes max bytes text rest → ⊥

-- a text has one quoted form, and none begins a longer one
abbrev pub QuotedIsPrefixFree : Type 0
QuotedIsPrefixFree = (text other rest more : List ℕ) → quoted text ++ rest ≡ quoted other ++ more → (text ≡ other) × (rest ≡ more)

-- either a quoted form begins the bytes, or none does
abbrev pub QuotedIsDecided : Type 0
QuotedIsDecided = (max : ℕ) (bytes : List ℕ) → ((text : List ℕ) × ((rest : List ℕ) × Unquotes max bytes text rest)) ⊎ BeginsNoQuoted max bytes
