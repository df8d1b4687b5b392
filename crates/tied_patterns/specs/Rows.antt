-- The tied pairs, as far as they were looked for: row by row, a pattern with those behind it.
use Rattle.std.specs.Prelude.{◌≡◌, ◌⊎◌, ℕ, ◌<◌, List, All, AllPairs, Option, None, Some}
use Rattle.tied_patterns.specs.declared.equality.Equality.{Equality}
use Rattle.tied_patterns.specs.declared.tied.Tied.{Tied}
use Rattle.tied_patterns.specs.Tied.{AreTied, IsEarlier, IsPair, IsTied, Lists}

-- what two patterns come to
abbrev pub IsFound : List Equality → ℕ → ℕ → Option Tied → Type 0
IsFound equalities first second None = AreTied equalities first second → ⊥
IsFound equalities first second (Some tied) = (tied.left.pattern ≡ first) × (tied.right.pattern ≡ second) × IsTied equalities tied

-- the one pair of patterns comes before the other
abbrev pub IsBefore : ℕ → ℕ → ℕ → ℕ → Type 0
IsBefore one other first second = (one < first) ⊎ ((one ≡ first) × (other < second))

-- these are the tied pairs that come before this pair of patterns: each once, in order
pub record AreFound (equalities : List Equality) (count first second : ℕ) (pairs : List Tied) : Type 0 where
  pub tied : All (IsTied equalities) pairs
  pub placed : All (IsPair count) pairs
  pub before : All (λ (tied : Tied). IsBefore tied.left.pattern tied.right.pattern first second) pairs
  pub all : (one other : ℕ) → one < other → other < count → IsBefore one other first second → AreTied equalities one other → Lists pairs one other
  pub once : AllPairs IsEarlier pairs
