-- Numbers of which some were taken.
use Rattle.std.specs.Prelude.{ℕ, List, Bool, not, ◌==◌}
use Rattle.std.specs.List.{filter, list_any}

abbrev pub contains_number : List ℕ → ℕ → Bool
contains_number numbers n = list_any (λ m. n == m) numbers

-- the numbers that are not taken
abbrev pub without : List ℕ → List ℕ → List ℕ
without numbers taken = filter (λ n. not (contains_number taken n)) numbers
