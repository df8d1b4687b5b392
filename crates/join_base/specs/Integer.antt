-- The integer that a text of digits stands for.
use Rattle.std.specs.Prelude.{ℕ, ℤ, pos, neg_ℤ, ◌+◌, ◌-◌, ◌*◌, ◌^◌, Bool, ◌&&◌, ◌==◌, nat_lt, nat_le, if◌then◌else◌, List, length, drop, fold, slice_index, Option, Some, None}
use Rattle.std.specs.List.{list_all}
use Rattle.std.specs.Char.{is_ascii_digit}

-- one or more digits
abbrev pub are_digits : List ℕ → Bool
are_digits text = nat_lt 0 (length text) && list_all is_ascii_digit text

-- the number that digits stand for
abbrev pub value_of : List ℕ → ℕ
value_of digits = fold (λ n d. n * 10 + (d - 48)) 0 digits

-- the number that one or more digits stand for, where it is at most max
abbrev pub natural_of : ℕ → List ℕ → Option ℕ
natural_of max text = if are_digits text && nat_le (value_of text) max then Some (value_of text) else None

abbrev pub positive : Option ℕ → Option ℤ
positive None = None
positive (Some n) = Some (pos n)

abbrev pub negative : Option ℕ → Option ℤ
negative None = None
negative (Some n) = Some (neg_ℤ (pos n))

-- an optional `-` and one or more digits, with a value of 64 bits
abbrev pub integer_of : List ℕ → Option ℤ
integer_of text =
    if slice_index text 0 == 45 then negative (natural_of (2 ^ 63) (drop 1 text))
    else positive (natural_of (2 ^ 63 - 1) text)
