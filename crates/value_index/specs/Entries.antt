-- The entries of an index.
use Rattle.std.specs.Prelude.{ℕ, ℤ}

-- a number whose message has the value at the field of the place
pub record Entry : Type 0 where
  pub value : ℤ
  pub place : ℕ
  pub number : ℕ

-- a number has the value at the field of this place
abbrev pub entry : ℕ → ℤ → ℕ → Entry
entry place value number = record { value = value; place = place; number = number }
