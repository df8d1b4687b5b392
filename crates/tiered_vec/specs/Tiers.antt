-- Numbers in blocks of equal length, of which the first and the last may have fewer.
use Rattle.std.specs.Prelude.{◌≡◌, ℕ, suc, ◌<◌, ◌≤◌, List, [], ◌∷◌, ◌++◌, length, take, drop, get_or}
use Rattle.std.specs.List.{concat, remove}

abbrev pub block_at : List (List ℕ) → ℕ → List ℕ
block_at blocks i = get_or blocks i []

-- how many numbers stand before a block
abbrev pub count_before : List (List ℕ) → ℕ → ℕ
count_before blocks i = length (concat (take i blocks))

-- each block but the first has a number, none has more than its room, and only the first and the last have less
pub record IsTiered (blocks : List (List ℕ)) : Type 0 where
  pub filled : (i : ℕ) → 0 < i → i < length blocks → 0 < length (block_at blocks i)
  pub within : (i : ℕ) → i < length blocks → length (block_at blocks i) ≤ 2048
  pub full : (i : ℕ) → 0 < i → suc i < length blocks → length (block_at blocks i) ≡ 2048

-- the first block has a number, if there is a block
abbrev pub IsBegun : List (List ℕ) → Type 0
IsBegun blocks = 0 < length blocks → 0 < length (block_at blocks 0)

-- the first block has one number less, and the others have as many
pub record IsShorter (old new : List (List ℕ)) : Type 0 where
  pub size : length new ≡ length old
  pub first : suc (length (block_at new 0)) ≡ length (block_at old 0)
  pub others : (i : ℕ) → 0 < i → length (block_at new i) ≡ length (block_at old i)

-- the number is out of the blocks before this one, and belongs at its front; the blocks from it on are as they were
pub record IsShifted (old new : List (List ℕ)) (to number : ℕ) : Type 0 where
  pub shorter : IsShorter old new
  pub front : concat (take to new) ++ number ∷ [] ≡ concat (take to old)
  pub rest : drop to new ≡ drop to old

-- the number stands behind the others, in blocks as before
pub record IsPushed (old new : List (List ℕ)) (number : ℕ) : Type 0 where
  pub list : concat new ≡ concat old ++ number ∷ []
  pub tiered : IsTiered new
  pub begun : IsBegun new

-- the number at a place of the whole list is out, in blocks as before
pub record IsTaken (old new : List (List ℕ)) (place : ℕ) : Type 0 where
  pub list : concat new ≡ remove (concat old) place
  pub tiered : IsTiered new
  pub begun : IsBegun new
