-- The window of a definition: which of the recorded messages it sees.
use Rattle.std.specs.Prelude.{ℕ, ◌+◌, ◌-◌, ◌≤◌, List, Bool, true, nat_lt, Option, None, Some}
use Rattle.std.specs.List.{filter}
use Rattle.pattern_core.specs.declared.definition.Definition.{Definition}

-- a window that sees the latest message at least
abbrev pub SeesLatest : Option ℕ → Type 0
SeesLatest None = Unit {0}
SeesLatest (Some window) = 1 ≤ window

-- the least number that is seen where so many are recorded; a difference stops at 0
abbrev pub oldest_seen : Option ℕ → ℕ → ℕ
oldest_seen None recorded = 1
oldest_seen (Some window) recorded = recorded - window + 1

-- the number is seen where so many are recorded: without a window each one is, and with a window of n each that is greater than recorded - n
abbrev pub is_seen : Option ℕ → ℕ → ℕ → Bool
is_seen None recorded number = true
is_seen (Some window) recorded number = nat_lt recorded (number + window)

-- the live numbers that a definition sees where so many messages are recorded
abbrev pub seen_of : Definition → ℕ → List ℕ → List ℕ
seen_of definition recorded live = filter (is_seen definition.window recorded) live
