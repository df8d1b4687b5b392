-- Texts and their bounds.
use Rattle.std.proofs.Common.{ℕ, ◌≤◌, List, arith}
use Rattle.join_base.specs.Text.{IsText}

-- a text of at most so many bytes is one of at most more
pub text_within : (max most : ℕ) (bytes : List ℕ) → max ≤ most → IsText max bytes → IsText most bytes
text_within max most bytes l text = record { utf8 = text.utf8; short = omega (arith, l, text.short) }
