-- The byte whose form stands in front of a text, found by its first four bytes. Past the end of the text stand zeros.
use Rattle.std.specs.Prelude.{◌≡◌, ℕ, ◌<◌, ◌≤◌, ◌++◌, length, drop, ◌+◌, ◌-◌, ◌*◌, ◌&&◌, ◌||◌, not, Bool, ◌==◌, nat_le, if◌then◌else◌, Option, Some, None, List, slice_index}
use Rattle.join_base.specs.Quoted.{is_control, byte_form}

-- the value of a lower-case hexadecimal digit
unfoldable pub hex_value : ℕ → Option ℕ
hex_value digit =
    if nat_le 48 digit && nat_le digit 57 then Some (digit - 48)
    else if nat_le 97 digit && nat_le digit 102 then Some (digit - 87)
    else None

-- the byte of two digits
abbrev pub hex_byte : Option ℕ → Option ℕ → Option ℕ
hex_byte None low = None
hex_byte (Some high) None = None
hex_byte (Some high) (Some low) = Some (high * 16 + low)

-- a byte that is written as `\x` and two digits
abbrev pub is_hex_escaped : ℕ → Bool
is_hex_escaped b = is_control b && not (b == 9 || (b == 10 || b == 13))

-- a byte that is written so, and the length of this form
abbrev pub hex_escape : Option ℕ → Option (ℕ × ℕ)
hex_escape None = None
hex_escape (Some b) = if is_hex_escaped b then Some (b, 4) else None

-- the byte that `\` and what follows stand for, and the length of this form
unfoldable pub escape : ℕ → ℕ → ℕ → Option (ℕ × ℕ)
escape letter high low =
    if letter == 34 then Some (34, 2)
    else if letter == 92 then Some (92, 2)
    else if letter == 110 then Some (10, 2)
    else if letter == 114 then Some (13, 2)
    else if letter == 116 then Some (9, 2)
    else if letter == 120 then hex_escape (hex_byte (hex_value high) (hex_value low))
    else None

-- the byte whose form these four begin with, and the length of this form
unfoldable pub form_of : ℕ → ℕ → ℕ → ℕ → Option (ℕ × ℕ)
form_of first letter high low =
    if first == 92 then escape letter high low
    else if first == 34 || is_control first then None
    else Some (first, 1)

abbrev pub form_at : List ℕ → Option (ℕ × ℕ)
form_at text = form_of (slice_index text 0) (slice_index text 1) (slice_index text 2) (slice_index text 3)

-- the form of this byte, so long, stands in front of the text
pub record IsFront (text : List ℕ) (byte size : ℕ) : Type 0 where
  pub some : 0 < size
  pub within : size ≤ length text
  pub split : text ≡ byte_form byte ++ drop size text
