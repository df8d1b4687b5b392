-- Names of variables, by which the chains of equalities are found.
use Rattle.std.specs.Prelude.{◌≡◌, ℕ, List, [], ◌∷◌, Bool, false, not, ◌&&◌, ◌||◌, ◌==◌, Option, Some, None, find, if◌then◌else◌}
use Rattle.std.specs.Option.{option_or}
use Rattle.guard_eval.specs.declared.term.Place.{Place}
use Rattle.tied_patterns.specs.declared.equality.Equality.{Equality}
use Rattle.tied_patterns.specs.declared.tied.Tied.{Tied}
use Rattle.tied_patterns.specs.Tied.{Chain}

abbrev pub is_same_place : Place → Place → Bool
is_same_place a b = (a.pattern == b.pattern) && (a.field == b.field)

-- a variable under its other name
abbrev pub renamed : Equality → Place → Place
renamed name place = if is_same_place name.left place then name.right else place

abbrev pub renamed_by : List Equality → Place → Place
renamed_by [] place = place
renamed_by (name ∷ names) place = renamed_by names (renamed name place)

-- variables have one name exactly where a chain of the equalities leads from one to the other
pub record AreNames (equalities names : List Equality) : Type 0 where
  pub chain : (a b : Place) → renamed_by names a ≡ renamed_by names b → Chain equalities a b
  pub name : (a b : Place) → Chain equalities a b → renamed_by names a ≡ renamed_by names b

abbrev pub have_one_name : List Equality → Place → Place → Bool
have_one_name names a b = is_same_place (renamed_by names a) (renamed_by names b)

-- ---- what ties two patterns

abbrev pub is_between : ℕ → ℕ → Equality → Bool
is_between first second equality =
    ((equality.left.pattern == first) && (equality.right.pattern == second))
    || ((equality.left.pattern == second) && (equality.right.pattern == first))

abbrev pub is_direct : List Equality → ℕ → ℕ → Bool
is_direct [] first second = false
is_direct (equality ∷ equalities) first second = is_between first second equality || is_direct equalities first second

-- the variables that equalities compare, one after the other
abbrev pub sides_of : List Equality → List Place
sides_of [] = []
sides_of (equality ∷ equalities) = equality.left ∷ equality.right ∷ sides_of equalities

-- a variable of this pattern that has the name of a place
abbrev pub is_partner : List Equality → Place → ℕ → Place → Bool
is_partner names place pattern other = (other.pattern == pattern) && have_one_name names place other

abbrev pub partner_in : List Equality → Place → ℕ → List Place → Option Place
partner_in names place pattern others = find (is_partner names place pattern) others

-- a variable of neither pattern that has the name of a place
abbrev pub is_link : List Equality → Place → ℕ → ℕ → Place → Bool
is_link names place first second other = not ((other.pattern == first) || (other.pattern == second)) && have_one_name names place other

abbrev pub link_in : List Equality → Place → ℕ → ℕ → List Place → Option Place
link_in names place first second others = find (is_link names place first second) others

abbrev pub tied_by : Place → Option Place → Option Place → Option Tied
tied_by left (Some right) (Some link) = Some record { left = left; right = right; link = link }
tied_by left (Some right) None = None
tied_by left None link = None

-- what ties a variable of the first pattern to the second one
abbrev pub tied_at : List Equality → List Place → ℕ → ℕ → Place → Option Tied
tied_at names sides first second place =
    if place.pattern == first then tied_by place (partner_in names place second sides) (link_in names place first second sides) else None

-- what ties the first pattern to the second one, by the first of its variables that does
abbrev pub tied_from : List Equality → List Place → ℕ → ℕ → List Place → Option Tied
tied_from names sides first second [] = None
tied_from names sides first second (place ∷ places) =
    option_or (tied_at names sides first second place) (tied_from names sides first second places)
