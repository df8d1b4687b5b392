-- Stamps: what they go up to.
use Rattle.std.specs.Prelude.{ℕ, ◌-◌, ◌^◌}

-- the last 32-bit number
abbrev pub greatest_stamp : ℕ
greatest_stamp = 2 ^ 32 - 1
