-- A name is a text.
use Rattle.std.proofs.Common.{◌≡◌, ◌<◌, ℕ, true, List, [], ◌∷◌, length, get_or, nat_le, arith}
use Rattle.std.specs.Prelude.{not, ◌&&◌}
use Rattle.std.specs.List.{list_all}
use Rattle.std.specs.Str.{IsAscii}
use Rattle.std.proofs.lemmas.Bool.{and_parts, leb-true}
use Rattle.std.proofs.lemmas.Bool.Decides.{nat_tests}
use Rattle.std.proofs.lemmas.Str.{IsUtf8-from_ascii}
use Rattle.std.proofs.lemmas.Str.Ascii.{IsAscii-nil, IsAscii-cons}
use Rattle.join_base.specs.Text.{IsText, begins_word, goes_on_word, is_name, is_reserved}

ascii_byte : (b : ℕ) → goes_on_word b ≡ true → b < 128
ascii_byte b h = grind (arith, nat_tests)

ascii_word : (word : List ℕ) → list_all goes_on_word word ≡ true → IsAscii word
ascii_word [] h = IsAscii-nil
ascii_word (b ∷ word) h =
    let both = and_parts (goes_on_word b) (list_all goes_on_word word) h in
    IsAscii-cons b word (ascii_byte b both.0) (ascii_word word both.1)

pub name_is_text : (word : List ℕ) → is_name word ≡ true → IsText 120 word
name_is_text word h =
    let plain = (and_parts (nat_le (length word) 64 && begins_word (get_or word 0 0) && list_all goes_on_word word) (not (is_reserved word)) h).0 in
    let front = and_parts (nat_le (length word) 64 && begins_word (get_or word 0 0)) (list_all goes_on_word word) plain in
    let short = leb-true (length word) 64 (and_parts (nat_le (length word) 64) (begins_word (get_or word 0 0)) front.0).0 in
    record { utf8 = IsUtf8-from_ascii word (ascii_word word front.1); short = omega arith }
