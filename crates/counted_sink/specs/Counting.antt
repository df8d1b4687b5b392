-- How often a sink was written to.
use Rattle.std.specs.Prelude.{◌≡◌, ℕ, ◌+◌, ◌≤◌, List, length, Bool, true, false, Option, None, Some, Result, Ok, Err}
use Rattle.join_base.specs.Memory.{one_more}

-- how many writes were made, how many of them failed, and whether the latest one did
pub record WriteCount : Type 0 where
  pub made : ℕ
  pub failed : ℕ
  pub latest_failed : Bool

-- one write more, which took some bytes or failed
abbrev pub with_write : {T E : Type 0} → WriteCount → Result T E → WriteCount
with_write {T} {E} count (Ok taken) = record { made = one_more count.made; failed = count.failed; latest_failed = false }
with_write {T} {E} count (Err fault) = record { made = one_more count.made; failed = one_more count.failed; latest_failed = true }

-- one write failed, and it was the latest: none was made behind it
pub record FailsLast (before now : WriteCount) : Type 0 where
  pub one : now.failed ≡ one_more before.failed
  pub latest : now.latest_failed ≡ true

-- ---- of writing some bytes

-- at most one write for each of so many bytes
abbrev pub WritesFew : WriteCount → WriteCount → ℕ → Type 0
WritesFew before now size = now.made ≤ before.made + size

-- where the sink tells, at most one write for each byte that it took, and so many more
abbrev pub WritesFewWhereTold : Option (List ℕ) → Option (List ℕ) → WriteCount → WriteCount → ℕ → Type 0
WritesFewWhereTold None taken_now before now more = Unit {0}
WritesFewWhereTold (Some taken) None before now more = Unit {0}
WritesFewWhereTold (Some taken) (Some taken_now) before now more = now.made + length taken ≤ before.made + length taken_now + more

-- no write failed, or the last one alone, and then no other was made
abbrev pub StopsAtFault : {X E : Type 0} → WriteCount → WriteCount → Result X E → Type 0
StopsAtFault {X} {E} before now (Ok x) = now.failed ≡ before.failed
StopsAtFault {X} {E} before now (Err fault) = FailsLast before now

-- the write that failed, where one did
abbrev pub fault_count : {X E : Type 0} → Result X E → ℕ
fault_count {X} {E} (Ok x) = 0
fault_count {X} {E} (Err fault) = 1
