-- What a definition sees, by the oldest number that it sees.
use Rattle.std.proofs.Common.{◌≡◌, ℕ, ◌≤◌, Option, None, Some, arith}
use Rattle.std.specs.Prelude.{nat_le}
use Rattle.std.proofs.lemmas.Bool.Decides.{nat_tests}
use Rattle.pattern_core.specs.Window.{is_seen, oldest_seen}

-- a number of an arrival is seen where the oldest seen one is not above it
pub seen_from_oldest : (window : Option ℕ) (recorded number : ℕ) → 1 ≤ number → is_seen window recorded number ≡ nat_le (oldest_seen window recorded) number
seen_from_oldest None recorded number above = grind (arith, nat_tests)
seen_from_oldest (Some window) recorded number above = grind (arith, nat_tests)
