-- Numbers as a log has them: decimal, without leading zeros, and an integer with `-` where it is negative, but never
-- `-0`.
use Rattle.std.specs.Prelude.{ℕ, ℤ, Bool, not, ◌==◌, ◌||◌, List, length, slice_index, Option, if◌then◌else◌}
use Rattle.join_base.specs.Integer.{natural_of, integer_of}
use Rattle.log_lines.specs.Gives.{where_true}

-- where the digits begin
abbrev pub first_digit : List ℕ → ℕ
first_digit text = if slice_index text 0 == 45 then slice_index text 1 else slice_index text 0

-- the digits do not begin with a zero, but for the text `0`
abbrev pub is_plain : List ℕ → Bool
is_plain text = not (first_digit text == 48) || length text == 1

-- the number that the text is, of at most max
unfoldable pub number_of : ℕ → List ℕ → Option ℕ
number_of max text = where_true (is_plain text) (natural_of max text)

-- the same of a number from 1 on
unfoldable pub count_of : ℕ → List ℕ → Option ℕ
count_of max text = where_true (not (slice_index text 0 == 48)) (natural_of max text)

-- the integer that the text is, of 64 bits
unfoldable pub int_of : List ℕ → Option ℤ
int_of text = where_true (is_plain text) (integer_of text)
