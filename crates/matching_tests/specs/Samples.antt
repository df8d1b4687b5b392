-- The joins and messages of tests.
use Rattle.std.specs.Prelude.{◌≡◌, ℕ, ◌<◌, ◌≤◌, List, true, slice_get}
use Rattle.std.specs.List.{AllByRecursion}
use Rattle.join_base.specs.declared.message.Message.{Message}
use Rattle.join_base.specs.declared.message.Sort.{Sort}
use Rattle.guard_eval.specs.Condition.{Condition}
use Rattle.guard_eval.specs.Meaning.{Need, needs_of, has_sort}
use Rattle.pattern_core.specs.Suits.{IsRecorded}
use Rattle.value_index.specs.Index.{Index, Has}

-- an integer in the first field of one of the first two patterns
abbrev pub IsSampleNeed : Need → Type 0
IsSampleNeed need = (need.0.pattern < 2) × ((need.0.field ≡ 0) × (need.1 ≡ Sort.Int))

-- the conjuncts need no more
abbrev pub AreSamples : List Condition → Type 0
AreSamples conjuncts = AllByRecursion (λ c. AllByRecursion IsSampleNeed (needs_of c)) conjuncts

-- each message has an integer in its first field
abbrev pub AreInts : List Message → Type 0
AreInts messages = AllByRecursion (λ m. has_sort Sort.Int (slice_get m.fields 0) ≡ true) messages

-- the index has the messages up to this number
abbrev pub HasUpTo : Index → List Message → ℕ → Type 0
HasUpTo index messages last = (number : ℕ) → IsRecorded messages number → number ≤ last → Has index messages number

-- the index has all messages
abbrev pub HasAll : Index → List Message → Type 0
HasAll index messages = (number : ℕ) → IsRecorded messages number → Has index messages number
