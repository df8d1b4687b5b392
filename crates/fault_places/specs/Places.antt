-- The lines of a text, and the places on them. A text is any list of bytes.
use Rattle.std.specs.Prelude.{ℕ, ◌+◌, ◌-◌, List, Bool, not, ◌==◌, ◌||◌, nat_lt, nat_le, take, drop, length, count_by}
use Rattle.std.specs.List.{prefix_len, suffix_len}

-- a line feed
abbrev pub ends_line : ℕ → Bool
ends_line b = b == 10

abbrev pub is_inside_line : ℕ → Bool
is_inside_line b = not (ends_line b)

-- the first byte of a character in UTF-8
abbrev pub begins_character : ℕ → Bool
begins_character b = nat_lt b 128 || nat_le 192 b

-- how many bytes of its line stand in front of a place
abbrev pub front_len : List ℕ → ℕ → ℕ
front_len text place = suffix_len is_inside_line (take place text)

-- what stands on the line of a place in front of it
abbrev pub line_front : List ℕ → ℕ → List ℕ
line_front text place = drop (length (take place text) - front_len text place) (take place text)

-- what stands on the line of a place from it on
abbrev pub line_back : List ℕ → ℕ → List ℕ
line_back text place = take (prefix_len is_inside_line (drop place text)) (drop place text)

-- the number of a place's line, from 1
abbrev pub line_number : List ℕ → ℕ → ℕ
line_number text place = count_by ends_line (take place text) + 1

-- the number of a place's character on its line, from 1
abbrev pub column_number : List ℕ → ℕ → ℕ
column_number text place = count_by begins_character (line_front text place) + 1
