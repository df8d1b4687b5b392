-- What the inputs hold under a name.
use Rattle.std.specs.Prelude.{ℕ, List, nat_lt, length, Option, None, Some, if◌then◌else◌}
use Rattle.join_base.specs.Outside.{Files, content_of}

-- the most bytes of a script and of a feed
abbrev pub max_file : ℕ
max_file = 16777216

-- the most bytes of a log
abbrev pub max_log : ℕ
max_log = 268435456

-- nothing, more bytes than a file may have, or the bytes of a file
pub data File : Type 0 where
  Absent : File
  Long : File
  Holds : (bytes : List ℕ) → File

abbrev pub file_within : ℕ → Option (List ℕ) → File
file_within max None = Absent
file_within max (Some bytes) = if nat_lt max (length bytes) then Long else Holds bytes

abbrev pub file_of : Files → List ℕ → File
file_of files name = file_within max_file (content_of files name)

-- a log, which may have more
abbrev pub log_of : Files → List ℕ → File
log_of files name = file_within max_log (content_of files name)
