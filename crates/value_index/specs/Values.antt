-- The value by which a field is looked up: an integer itself, and of a text a number that is made of its bytes.
use Rattle.std.specs.Prelude.{ℕ, ℤ, pos, ◌+◌, ◌*◌, ◌%◌, List, [], ◌∷◌, if◌then◌else◌}
use Rattle.join_base.specs.declared.message.Message.{Message}
use Rattle.guard_eval.specs.Meaning.{recorded_message, field_of, int_of, words_of}
use Rattle.value_index.specs.declared.field.IndexedField.{IndexedField}

-- a number made of a value and the bytes behind it
abbrev pub text_from : ℕ → List ℕ → ℕ
text_from value [] = value
text_from value (byte ∷ bytes) = text_from ((value * 257 + byte) % 4294967291) bytes

-- the same number for equal texts, and mostly another one for others
abbrev pub text_value : List ℕ → ℕ
text_value bytes = text_from 0 bytes

-- the value of a recorded message at the field, and that of 0 or of the empty text where there is none
abbrev pub value_at : List Message → ℕ → IndexedField → ℤ
value_at messages number indexed =
    if indexed.words then pos (text_value (words_of (field_of (recorded_message messages number) indexed.field))) else int_of (field_of (recorded_message messages number) indexed.field)
