-- Worked examples, computed by the definitions.
use Rattle.std.proofs.Common.{◌≡◌, refl, [], ◌∷◌, ◌++◌, true, false, pos, negsuc, Some, None}
use Rattle.std.specs.Prelude.{codes}
use Rattle.std.specs.Str.{is_utf8, chars}
use lib.Utf8.{encode}
use Rattle.join_base.specs.Quoted.{quoted}
use Rattle.join_base.specs.Text.{is_text}
use Rattle.join_base.specs.Numbers.{ascending}
use Rattle.join_base.specs.Integer.{integer_of}

quotes : quoted (codes "a \"b\"") ≡ codes "\"a \\\"b\\\"\""
quotes = refl

controls : quoted (10 ∷ 13 ∷ 9 ∷ 0x1F ∷ 0x7F ∷ 92 ∷ 0 ∷ []) ≡ codes "\"\\n\\r\\t\\x1f\\x7f\\\\\\x00\""
controls = refl

short_text : is_text 3 (codes "abc") ≡ true
unfolding is_text is_utf8 chars encode
short_text = refl

long_text : is_text 2 (codes "abc") ≡ false
unfolding is_text is_utf8 chars encode
long_text = refl

no_text : is_text 3 (0xFF ∷ []) ≡ false
unfolding is_text is_utf8 chars encode
no_text = refl

two_bytes : is_text 3 (0xC3 ∷ 0xA9 ∷ []) ≡ true
unfolding is_text is_utf8 chars encode
two_bytes = refl

in_order : ascending (5 ∷ 2 ∷ 9 ∷ 2 ∷ []) ≡ 2 ∷ 2 ∷ 5 ∷ 9 ∷ []
in_order = refl

-- ---- integers

leading_zeros : integer_of (codes "007") ≡ Some (pos 7)
leading_zeros = refl

no_sign_of_zero : integer_of (codes "-0") ≡ Some (pos 0)
no_sign_of_zero = refl

below_zero : integer_of (codes "-12") ≡ Some (negsuc 11)
below_zero = refl

least : integer_of (codes "-9223372036854775808") ≡ Some (negsuc 9223372036854775807)
least = refl

greatest : integer_of (codes "9223372036854775807") ≡ Some (pos 9223372036854775807)
greatest = refl

too_great : integer_of (codes "9223372036854775808") ≡ None
too_great = refl

too_low : integer_of (codes "-9223372036854775809") ≡ None
too_low = refl

plus_sign : integer_of (codes "+1") ≡ None
plus_sign = refl

no_digit : integer_of [] ≡ None
no_digit = refl

sign_alone : integer_of (codes "-") ≡ None
sign_alone = refl

two_signs : integer_of (codes "--1") ≡ None
two_signs = refl

fraction : integer_of (codes "1.5") ≡ None
fraction = refl

-- ---- quoted texts

nothing : quoted [] ≡ codes "\"\""
nothing = refl

other_bytes : quoted (codes "caf" ++ 0xC3 ∷ 0xA9 ∷ []) ≡ codes "\"caf" ++ 0xC3 ∷ 0xA9 ∷ 34 ∷ []
other_bytes = refl
