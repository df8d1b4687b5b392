-- What a text and a name are, as facts and as tests that compute.
use Rattle.std.specs.Prelude.{ℕ, ◌≤◌, List, [], ◌∷◌, codes, length, Bool, not, ◌&&◌, ◌||◌, ◌==◌, nat_le, slice_index}
use Rattle.std.specs.List.{list_all, list_any}
use Rattle.std.specs.Char.{is_ascii_alphabetic, is_ascii_digit}
use Rattle.std.specs.Str.{IsUtf8, bytes_eq, is_utf8}

-- UTF-8 of at most max bytes
pub record IsText (max : ℕ) (bytes : List ℕ) : Type 0 where
  pub utf8 : IsUtf8 bytes
  pub short : length bytes ≤ max

unfoldable pub is_text : ℕ → List ℕ → Bool
is_text max bytes = nat_le (length bytes) max && is_utf8 bytes

-- an ASCII letter or `_`, with which a word begins
abbrev pub begins_word : ℕ → Bool
begins_word b = is_ascii_alphabetic b || b == 95

-- an ASCII letter, a digit or `_`
abbrev pub goes_on_word : ℕ → Bool
goes_on_word b = begins_word b || is_ascii_digit b

-- the words with a meaning of their own in a script
abbrev pub keywords : List (List ℕ)
keywords =
    codes "message" ∷ codes "actor" ∷ codes "when" ∷ codes "if" ∷ codes "print" ∷ codes "post" ∷ codes "stop" ∷ codes "int" ∷ codes "text"
    ∷ codes "within" ∷ codes "reply" ∷ []

-- a keyword, or the blank `_`
abbrev pub is_reserved : List ℕ → Bool
is_reserved word = list_any (bytes_eq word) keywords || bytes_eq word (codes "_")

-- a word of at most 64 bytes that is not reserved
abbrev pub is_name : List ℕ → Bool
is_name bytes = nat_le (length bytes) 64 && begins_word (slice_index bytes 0) && list_all goes_on_word bytes && not (is_reserved bytes)
