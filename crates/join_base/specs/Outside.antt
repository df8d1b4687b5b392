-- What the outside holds, where it tells, and when it may refuse.
use Rattle.std.specs.Prelude.{◌≡◌, ◌⊎◌, ℕ, ◌+◌, ◌-◌, ◌^◌, ◌≤◌, ◌<◌, min, List, [], ◌∷◌, ◌++◌, length, take, Option, None, Some, Result, Ok, Err, if◌then◌else◌}
use Rattle.std.specs.Str.{bytes_eq}
use Rattle.join_base.specs.declared.outside.FetchFault.{FetchFault}
use Rattle.join_base.specs.declared.outside.FetchFault.TheVariants.{Failed, TooLong, NoMemory}

-- a count of faults rose by one, or stands at its last value
abbrev pub Rose : ℕ → ℕ → Type 0
Rose before now = min (before + 1) (2 ^ 64 - 1) ≤ now

-- names with the bytes that they have
abbrev pub Files : Type 0
Files = List (List ℕ × List ℕ)

-- the bytes of a name, the first that stand there
abbrev pub content_of : Files → List ℕ → Option (List ℕ)
content_of [] name = None
content_of (file ∷ files) name = if bytes_eq file.0 name then Some file.1 else content_of files name

-- what is known of inputs that tell: what they hold, and the names that were asked
pub record Told : Type 0 where
  pub files : Files
  pub asked : List (List ℕ)

abbrev pub with_asked : Told → List ℕ → Told
with_asked told name = record { files = told.files; asked = told.asked ++ name ∷ [] }

-- what a fetch leaves: the name was asked, but perhaps not where there was no memory
abbrev pub IsAsked : Told → Told → List ℕ → Result (List ℕ) FetchFault → Type 0
IsAsked before now name (Ok bytes) = now ≡ with_asked before name
IsAsked before now name (Err Failed) = now ≡ with_asked before name
IsAsked before now name (Err TooLong) = now ≡ with_asked before name
IsAsked before now name (Err NoMemory) = (now ≡ with_asked before name) ⊎ (now ≡ before)

-- a name that has more bytes than max
abbrev pub IsTooLong : Option (List ℕ) → ℕ → Type 0
IsTooLong None max = ⊥
IsTooLong (Some bytes) max = max < length bytes

-- what a fetch answers of what is held: the bytes, of which there are at most max, or that they are more
abbrev pub IsFetched : Files → List ℕ → ℕ → Result (List ℕ) FetchFault → Type 0
IsFetched files name max (Ok bytes) = content_of files name ≡ Some bytes
IsFetched files name max (Err Failed) = Unit {0}
IsFetched files name max (Err TooLong) = IsTooLong (content_of files name) max
IsFetched files name max (Err NoMemory) = Unit {0}

pub record Fetches (before now : Told) (name : List ℕ) (max : ℕ) (result : Result (List ℕ) FetchFault) : Type 0 where
  pub asked : IsAsked before now name result
  pub fetched : IsFetched before.files name max result

-- inputs that tell go on to tell, and others don't begin to
abbrev pub FetchTells : Option Told → Option Told → List ℕ → ℕ → Result (List ℕ) FetchFault → Type 0
FetchTells None None name max result = Unit {0}
FetchTells None (Some now) name max result = ⊥
FetchTells (Some before) None name max result = ⊥
FetchTells (Some before) (Some now) name max result = Fetches before now name max result

-- a count of faults rose, and did not fall
pub record Rises (before now : ℕ) : Type 0 where
  pub later : before ≤ now
  pub rose : Rose before now

-- the count of faults rises where a fetch fails, and is as before at every other answer
abbrev pub FetchCause : ℕ → ℕ → Result (List ℕ) FetchFault → Type 0
FetchCause before now (Ok bytes) = now ≡ before
FetchCause before now (Err Failed) = Rises before now
FetchCause before now (Err TooLong) = now ≡ before
FetchCause before now (Err NoMemory) = now ≡ before

-- it rises where a write fails, and is as before where bytes were taken
abbrev pub WriteCause : {T E : Type 0} → ℕ → ℕ → Result T E → Type 0
WriteCause {T} {E} before now (Ok count) = now ≡ before
WriteCause {T} {E} before now (Err fault) = Rises before now

-- the bytes taken have grown by the first of the piece; at a fault they are as before
abbrev pub WriteTells : {E : Type 0} → Option (List ℕ) → Option (List ℕ) → List ℕ → Result ℕ E → Type 0
WriteTells {E} None now piece result = now ≡ None
WriteTells {E} (Some before) now piece (Ok count) = now ≡ Some (before ++ take count piece)
WriteTells {E} (Some before) now piece (Err fault) = now ≡ Some before

-- at least one byte of the piece is taken, and at most all
abbrev pub IsCount : List ℕ → ℕ → Type 0
IsCount piece count = (1 ≤ count) × (count ≤ length piece)
