-- What writing bytes piece by piece leaves.
use Rattle.std.specs.Prelude.{◌≡◌, ℕ, List, ◌++◌, Option, None, Some, Result, Ok, Err}

-- the sink took some of the bytes, from their beginning on
pub record TakesFront (before : List ℕ) (now : Option (List ℕ)) (bytes : List ℕ) : Type 0 where
  pub written : List ℕ
  pub rest : List ℕ
  pub parts : bytes ≡ written ++ rest
  pub taken : now ≡ Some (before ++ written)

-- it took all of them, or where a write failed some
abbrev pub WritesTo : {X E : Type 0} → List ℕ → Option (List ℕ) → List ℕ → Result X E → Type 0
WritesTo {X} {E} before now bytes (Ok x) = now ≡ Some (before ++ bytes)
WritesTo {X} {E} before now bytes (Err e) = TakesFront before now bytes

-- a sink that tells goes on to tell
abbrev pub Writes : {X E : Type 0} → Option (List ℕ) → Option (List ℕ) → List ℕ → Result X E → Type 0
Writes {X} {E} None now bytes result = now ≡ None
Writes {X} {E} (Some before) now bytes result = WritesTo before now bytes result
