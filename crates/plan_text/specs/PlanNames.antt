-- The names that the places of a plan stand for. A place that the plan has not gives the empty name; a plan that was checked
-- has none.
use Rattle.std.specs.Prelude.{ℕ, List, [], Option, None, Some, slice_get, codes}
use Rattle.join_base.specs.declared.message.Sort.{Sort}
use Rattle.join_base.specs.declared.message.Sort.TheVariants as sort
use Rattle.guard_eval.specs.declared.term.Place.{Place}

-- the variables of a pattern, a name or the blank for each field
abbrev pub Row : Type 0
Row = List (Option (List ℕ))

-- the variables of a rule, a row for each pattern
abbrev pub Variables : Type 0
Variables = List Row

abbrev pub row_or_empty : Option Row → Row
row_or_empty None = []
row_or_empty (Some row) = row

abbrev pub row_of : Variables → ℕ → Row
row_of variables pattern = row_or_empty (slice_get variables pattern)

abbrev pub name_or_empty : Option (Option (List ℕ)) → List ℕ
name_or_empty None = []
name_or_empty (Some None) = []
name_or_empty (Some (Some name)) = name

-- the name of the variable at a place
abbrev pub variable_name : Variables → Place → List ℕ
variable_name variables place = name_or_empty (slice_get (row_of variables place.pattern) place.field)

abbrev pub sort_name : Sort → List ℕ
sort_name sort.Int = codes "int"
sort_name sort.Words = codes "text"
