-- How often the top call writes.
use Rattle.std.specs.Prelude.{◌≡◌, ◌⊎◌, List, ℕ, Option}
use Rattle.counted_sink.specs.Counting.{FailsLast, WriteCount, WritesFewWhereTold}
use Rattle.join_command.specs.declared.status.Status.{Status}
use Rattle.join_command.specs.declared.status.Status.TheVariants as status

-- at most one write for each byte that a sink that tells took, and one more that failed
abbrev pub MakesFewWrites : Option (List ℕ) → Option (List ℕ) → WriteCount → WriteCount → Status → Type 0
MakesFewWrites taken taken_now before now answer =
    WritesFewWhereTold taken taken_now before now 0 ⊎ ((answer ≡ status.WriteFault) × WritesFewWhereTold taken taken_now before now 1)

-- no write failed but where the answer says so, and then the last one alone
pub record EndsAtFault (answer : Status) (before now : WriteCount) : Type 0 where
  pub fault : answer ≡ status.WriteFault → FailsLast before now
  pub quiet : (now.failed ≡ before.failed) ⊎ (answer ≡ status.WriteFault)
