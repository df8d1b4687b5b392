-- Patterns that are tied by a chain of equalities, and by none directly.
use Rattle.std.specs.Prelude.{◌≡◌, ◌≢◌, ◌⊎◌, ℕ, ◌<◌, List, All, AllPairs, Any, Contains}
use Rattle.guard_eval.specs.declared.term.Place.{Place}
use Rattle.tied_patterns.specs.declared.equality.Equality.{Equality}
use Rattle.tied_patterns.specs.declared.tied.Tied.{Tied}

-- ---- chains

abbrev pub equal : Place → Place → Equality
equal a b = record { left = a; right = b }

-- a chain of equalities leads from one variable to another
pub data Chain (equalities : List Equality) : Place → Place → Type 0 where
  reflexive : (a : Place) → Chain equalities a a
  compared : (a b : Place) → Contains equalities (equal a b) → Chain equalities a b
  symmetric : (a b : Place) → Chain equalities a b → Chain equalities b a
  transitive : (a b c : Place) → Chain equalities a b → Chain equalities b c → Chain equalities a c

-- ---- patterns

-- an equality compares a variable of the one pattern with one of the other
abbrev pub IsBetween : ℕ → ℕ → Equality → Type 0
IsBetween first second equality =
    ((equality.left.pattern ≡ first) × (equality.right.pattern ≡ second)) ⊎ ((equality.left.pattern ≡ second) × (equality.right.pattern ≡ first))

-- some equality does
abbrev pub AreDirect : List Equality → ℕ → ℕ → Type 0
AreDirect equalities first second = Any (IsBetween first second) equalities

-- a chain leads from a variable of the one pattern to one of the other, and no equality ties the two directly
pub record AreTied (equalities : List Equality) (first second : ℕ) : Type 0 where
  pub left : Place
  pub right : Place
  pub of_first : left.pattern ≡ first
  pub of_second : right.pattern ≡ second
  pub chain : Chain equalities left right
  pub apart : AreDirect equalities first second → ⊥

-- ---- the pairs of them

-- what a pair says: a chain leads from its left variable to its right one, and to one of a third pattern, and no
-- equality ties the two patterns directly
pub record IsTied (equalities : List Equality) (tied : Tied) : Type 0 where
  pub chain : Chain equalities tied.left tied.right
  pub link : Chain equalities tied.left tied.link
  pub third : (tied.link.pattern ≢ tied.left.pattern) × (tied.link.pattern ≢ tied.right.pattern)
  pub apart : AreDirect equalities tied.left.pattern tied.right.pattern → ⊥

-- it is of two of so many patterns, in order
abbrev pub IsPair : ℕ → Tied → Type 0
IsPair count tied = (tied.left.pattern < tied.right.pattern) × (tied.right.pattern < count)

-- one of them is of these patterns
abbrev pub Lists : List Tied → ℕ → ℕ → Type 0
Lists pairs first second = Any (λ (tied : Tied). (tied.left.pattern ≡ first) × (tied.right.pattern ≡ second)) pairs

-- the patterns of one come before those of the other
abbrev pub IsEarlier : Tied → Tied → Type 0
IsEarlier one other =
    (one.left.pattern < other.left.pattern) ⊎ ((one.left.pattern ≡ other.left.pattern) × (one.right.pattern < other.right.pattern))

-- these are the pairs among so many patterns that are tied: each once, in order
pub record AreTiedPairs (equalities : List Equality) (count : ℕ) (pairs : List Tied) : Type 0 where
  pub tied : All (IsTied equalities) pairs
  pub placed : All (IsPair count) pairs
  pub all : (first second : ℕ) → first < second → second < count → AreTied equalities first second → Lists pairs first second
  pub once : AllPairs IsEarlier pairs
