-- What a name stands for.
use Rattle.std.specs.Prelude.{ℕ, ◌+◌, List, [], ◌∷◌, ◌++◌, Option, None, Some, if◌then◌else◌, map, fold, slice_get}
use Rattle.std.specs.Option.{is_some, option_map, option_and_then}
use Rattle.std.specs.Str.{bytes_eq}

-- the number of the first of the names that is this one, counted from 0
abbrev pub number_of : List ℕ → List (List ℕ) → Option ℕ
number_of name [] = None
number_of name (first ∷ others) = if bytes_eq name first then Some 0 else option_map (λ number. number + 1) (number_of name others)

abbrev pub names_of : {T : Type 0} → List (List ℕ × T) → List (List ℕ)
names_of rows = map (λ row. row.0) rows

-- what stands beside the first name that is this one
abbrev pub item_of : {T : Type 0} → List ℕ → List (List ℕ × T) → Option T
item_of name rows = option_map (λ row. row.1) (option_and_then (slice_get rows) (number_of name (names_of rows)))

-- the rows, with one more where no row before it has its name
abbrev pub bound : {T : Type 0} → List (List ℕ × T) → List ℕ × T → List (List ℕ × T)
bound rows row = if is_some (item_of row.0 rows) then rows else rows ++ row ∷ []

-- the same with each of several, one after the other
abbrev pub bound_all : {T : Type 0} → List (List ℕ × T) → List (List ℕ × T) → List (List ℕ × T)
bound_all rows more = fold bound rows more
