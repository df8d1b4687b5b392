-- What the inputs and the sink in memory hold.
use Rattle.std.specs.Prelude.{◌≡◌, ◌⊎◌, ℕ, ◌+◌, ◌-◌, ◌^◌, ◌≤◌, List, [], ◌∷◌, ◌++◌, length, take, min, Bool, true, false, ◌==◌, None, Result, Ok, Err}
use Rattle.std.specs.List.{list_any}
use Rattle.join_base.specs.declared.outside.Failed.{Failed as Fault}
use Rattle.join_base.specs.declared.outside.FetchFault.{FetchFault}
use Rattle.join_base.specs.declared.outside.FetchFault.TheVariants.{Failed, TooLong, NoMemory}
use Rattle.join_base.specs.Outside.{Files, Told, content_of}

-- the files, the newest first; the names asked; the numbers of the calls that fail, counted from 1; the calls and the faults so far
pub record InputsHeld : Type 0 where
  pub files : Files
  pub asked : List (List ℕ)
  pub failing : List ℕ
  pub calls : ℕ
  pub faults : ℕ

abbrev pub no_inputs : InputsHeld
no_inputs = record { files = []; asked = []; failing = []; calls = 0; faults = 0 }

-- the name has these bytes from now on
abbrev pub with_file : InputsHeld → List ℕ → List ℕ → InputsHeld
with_file held name bytes = record held { files = (name, bytes) ∷ held.files }

abbrev pub with_failing_fetch : InputsHeld → ℕ → InputsHeld
with_failing_fetch held call = record held { failing = held.failing ++ call ∷ [] }

abbrev pub told_by : InputsHeld → Told
told_by held = record { files = held.files; asked = held.asked }

-- the bytes taken, the room for all of them, the most that one write takes, and calls and faults as above
pub record SinkHeld : Type 0 where
  pub taken : List ℕ
  pub room : ℕ
  pub most : ℕ
  pub failing : List ℕ
  pub calls : ℕ
  pub faults : ℕ

abbrev pub empty_sink : ℕ → ℕ → SinkHeld
empty_sink room most = record { taken = []; room = room; most = most; failing = []; calls = 0; faults = 0 }

abbrev pub with_failing_write : SinkHeld → ℕ → SinkHeld
with_failing_write held call = record held { failing = held.failing ++ call ∷ [] }

abbrev pub is_among : List ℕ → ℕ → Bool
is_among calls call = list_any (λ other. other == call) calls

-- one more, up to the last 64-bit number
abbrev pub one_more : ℕ → ℕ
one_more count = min (count + 1) (2 ^ 64 - 1)

-- the name was asked, and the call counted
abbrev pub after_fetch : InputsHeld → List ℕ → InputsHeld
after_fetch held name = record held { asked = held.asked ++ name ∷ []; calls = one_more held.calls }

abbrev pub with_fetch_fault : InputsHeld → InputsHeld
with_fetch_fault held = record held { faults = one_more held.faults }

-- the call that comes next was to fail
abbrev pub fetch_is_to_fail : InputsHeld → Bool
fetch_is_to_fail held = is_among held.failing (one_more held.calls)

-- what a fetch leaves: it fails at a call that was to fail and at a name without bytes, and there alone
abbrev pub FetchLeaves : InputsHeld → InputsHeld → List ℕ → Result (List ℕ) FetchFault → Type 0
FetchLeaves before now name (Ok bytes) = (now ≡ after_fetch before name) × (fetch_is_to_fail before ≡ false)
FetchLeaves before now name (Err Failed) =
    (now ≡ with_fetch_fault (after_fetch before name)) × ((fetch_is_to_fail before ≡ true) ⊎ (content_of before.files name ≡ None))
FetchLeaves before now name (Err TooLong) = (now ≡ after_fetch before name) × (fetch_is_to_fail before ≡ false)
FetchLeaves before now name (Err NoMemory) = (now ≡ before) ⊎ (now ≡ after_fetch before name)

abbrev pub after_write : SinkHeld → List ℕ → SinkHeld
after_write held written = record held { taken = held.taken ++ written; calls = one_more held.calls }

abbrev pub with_write_fault : SinkHeld → SinkHeld
with_write_fault held = record held { faults = one_more held.faults }

abbrev pub write_is_to_fail : SinkHeld → Bool
write_is_to_fail held = is_among held.failing (one_more held.calls)

-- how many bytes of a piece a write takes
abbrev pub write_size : SinkHeld → List ℕ → ℕ
write_size held piece = min (min (held.room - length held.taken) held.most) (length piece)

-- what a write leaves: it fails at a call that was to fail and where no room is left, and there alone
abbrev pub WriteLeaves : SinkHeld → SinkHeld → List ℕ → Result ℕ Fault → Type 0
WriteLeaves before now piece (Ok count) = (count ≡ write_size before piece) × (now ≡ after_write before (take count piece)) × (write_is_to_fail before ≡ false)
WriteLeaves before now piece (Err fault) =
    (now ≡ with_write_fault (after_write before [])) × ((write_is_to_fail before ≡ true) ⊎ (before.room ≤ length before.taken))
