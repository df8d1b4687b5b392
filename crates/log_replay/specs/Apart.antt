-- Where bytes and a text part, in lines.
use Rattle.std.specs.Prelude.{ℕ, ◌+◌, ◌≤◌, nat_lt, List, [], ◌∷◌, length, take, count_by, Bool, ◌==◌, Option, None, Some, slice_get, if◌then◌else◌}
use Rattle.log_replay.specs.declared.apart.Progress.{Progress}
use Rattle.log_replay.specs.declared.apart.Progress.TheVariants.{Along, Parted}

-- how many lines end with this byte, where so many ended before
abbrev pub ended_with : ℕ → ℕ → ℕ
ended_with byte ended = if byte == 10 then ended + 1 else ended

-- how many lines end in front of the first difference, where so many ended before; none where the texts are equal
abbrev pub lines_before : ℕ → List ℕ → List ℕ → Option ℕ
lines_before ended [] [] = None
lines_before ended [] (c ∷ other) = Some ended
lines_before ended (b ∷ own) [] = Some ended
lines_before ended (b ∷ own) (c ∷ other) = if b == c then lines_before (ended_with b ended) own other else Some ended

-- ---- a text that comes piece by piece

-- with a byte more of the text, where they are one up to this place and this byte stands there
abbrev pub one_more : ℕ → ℕ → Option ℕ → Progress
one_more place byte None = Parted place
one_more place byte (Some own) = if own == byte then Along (place + 1) else Parted place

abbrev pub with_byte : List ℕ → Progress → ℕ → Progress
with_byte bytes (Along place) byte = one_more place byte (slice_get bytes place)
with_byte bytes (Parted place) byte = Parted place

-- with a piece more
abbrev pub behind : List ℕ → Progress → List ℕ → Progress
behind bytes progress [] = progress
behind bytes progress (byte ∷ piece) = behind bytes (with_byte bytes progress byte) piece

-- the place is one of the bytes or behind the last
abbrev pub IsWithin : List ℕ → Progress → Type 0
IsWithin bytes (Along place) = place ≤ length bytes
IsWithin bytes (Parted place) = place ≤ length bytes

abbrev pub ends_line : ℕ → Bool
ends_line byte = byte == 10

-- how many lines end in front of a place
abbrev pub ended_before : List ℕ → ℕ → ℕ
ended_before bytes place = count_by ends_line (take place bytes)

-- how many lines ended in front of the first difference, where no more of the text comes
abbrev pub parted : List ℕ → Progress → Option ℕ
parted bytes (Along place) = if nat_lt place (length bytes) then Some (ended_before bytes place) else None
parted bytes (Parted place) = Some (ended_before bytes place)
