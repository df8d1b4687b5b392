-- What a contract sees of a set of actors: for each number below 32 whether it is in.
use Rattle.std.specs.Prelude.{◌≡◌, ℕ, zero, suc, ◌+◌, ◌*◌, ◌/◌, ◌%◌, ◌^◌, ◌<◌, ◌==◌, Bool, false, List, [], ◌∷◌, if◌then◌else◌, replicate}
use Rattle.std.proofs.Common.{arith}
use Rattle.std.proofs.Math.Nat.{pow-suc}

-- the set that no actor is in
abbrev pub no_actors : List Bool
no_actors = replicate 32 false

-- ---- the number that holds a set

-- so many binary digits of a number, the lowest first
unfoldable pub digits_of : ℕ → ℕ → List Bool
digits_of zero n = []
digits_of (suc width) n = (n % 2 == 1) ∷ digits_of width (n / 2)

-- the number with these digits
unfoldable pub number_of : List Bool → ℕ
number_of [] = 0
number_of (digit ∷ digits) = (if digit then 1 else 0) + 2 * number_of digits

-- ---- a set gives its number back, as its type says

digit-back : (n : ℕ) → (if n % 2 == 1 then 1 else 0) ≡ n % 2
digit-back n = grind arith

pub number_of-digits : (width n : ℕ) → n < 2 ^ width → number_of (digits_of width n) ≡ n
unfolding digits_of number_of
number_of-digits zero n below = omega (arith, below)
number_of-digits (suc width) n below =
    let rest = number_of-digits width (n / 2) (omega (arith, below, pow-suc 2 width)) in
    omega (arith, rest, digit-back n)
