-- The search for what led to a firing: marks at the arrivals that were found, and those that wait to be looked at.
use Rattle.std.specs.Prelude.{◌≡◌, ℕ, ◌+◌, ◌-◌, ◌<◌, List, [], ◌∷◌, ◌++◌, Bool, true, false, not, ◌&&◌, Option, None, Some, length, take, slice_get, slice_set, if◌then◌else◌}
use Rattle.std.specs.List.{cons_option}
use Rattle.feed_causes.specs.declared.reaction.Reaction.{Reaction}
use Rattle.feed_causes.specs.Causes.{Arrived, LedTo, is_row, origin_at, origin_of, taken_at}
use Rattle.feed_causes.specs.Reactions.{HasRows, is_wanted}

-- ---- origins

-- the origins of arrivals, of which the first stands at this place among all
abbrev pub origins_from : List Arrived → ℕ → List Arrived → List (Option ℕ)
origins_from all place [] = []
origins_from all place (arrival ∷ more) = origin_of all place arrival.0 arrival.1.source ∷ origins_from all (place + 1) more

abbrev pub origin_in : Option (Option ℕ) → Option ℕ
origin_in None = None
origin_in (Some origin) = origin

-- ---- marks

-- there is no mark yet at a place
abbrev pub is_open : Option Bool → Bool
is_open None = false
is_open (Some mark) = not mark

abbrev pub marked : List Bool → ℕ → List Bool
marked marks place = if is_open (slice_get marks place) then slice_set marks place true else marks

-- what is marked now waits
abbrev pub awaited : List Bool → ℕ → List ℕ → List ℕ
awaited marks place waiting = if is_open (slice_get marks place) then waiting ++ place ∷ [] else waiting

abbrev pub all_marked : List Bool → List ℕ → List Bool
all_marked marks [] = marks
all_marked marks (place ∷ places) = all_marked (marked marks place) places

abbrev pub all_awaited : List Bool → List ℕ → List ℕ → List ℕ
all_awaited marks [] waiting = waiting
all_awaited marks (place ∷ places) waiting = all_awaited (marked marks place) places (awaited marks place waiting)

-- what the firing took that is an arrival's origin
abbrev pub led_by : List Arrived → Option ℕ → List ℕ
led_by all None = []
led_by all (Some origin) = taken_at all origin

-- the last that waits was looked at
pub record IsStep (all : List Arrived) (marks : List Bool) (waiting : List ℕ) (after : List Bool) (left : List ℕ) : Type 0 where
  pub rest : List ℕ
  pub last : ℕ
  pub was : waiting ≡ rest ++ last ∷ []
  pub marked_is : after ≡ all_marked marks (led_by all (origin_at all last))
  pub left_is : left ≡ all_awaited marks (led_by all (origin_at all last)) rest

-- where none waits, nothing changed
abbrev pub Looks : List Arrived → List Bool → List ℕ → List Bool → List ℕ → Bool → Type 0
Looks all marks waiting after left false = (waiting ≡ []) × (after ≡ marks) × (left ≡ waiting)
Looks all marks waiting after left true = IsStep all marks waiting after left

-- the marks stand at what led to the firing at a place
pub record AreMarks (all : List Arrived) (place : ℕ) (marks : List Bool) : Type 0 where
  pub count : length marks ≡ length all
  pub led : (cause : ℕ) → slice_get marks cause ≡ Some true → LedTo all place cause
  pub each : (cause : ℕ) → cause < length all → LedTo all place cause → slice_get marks cause ≡ Some true

-- ---- rows

abbrev pub row_at : List Arrived → ℕ → Bool → Option ℕ
row_at all place mark = if mark && is_row all place then Some place else None

-- the rows among what is marked, of which the first stands at this place
abbrev pub rows_from : List Arrived → ℕ → List Bool → List ℕ
rows_from all place [] = []
rows_from all place (mark ∷ marks) = cons_option (row_at all place mark) (rows_from all (place + 1) marks)

-- ---- reactions

-- the reaction at a place, with the first nine of these rows
pub record IsShort (at : ℕ) (rows : List ℕ) (reaction : Reaction) : Type 0 where
  pub here : reaction.place ≡ at
  pub nine : reaction.first ≡ take 9 rows
  pub others : reaction.more ≡ length rows - 9

abbrev pub IsAt : List Arrived → ℕ → Reaction → Type 0
IsAt all place reaction = (reaction.place ≡ place) × HasRows all reaction

-- what an arrival comes to
abbrev pub IsFound : List Arrived → Option ℕ → ℕ → Arrived → Option Reaction → Type 0
IsFound all only place arrival None = is_wanted only arrival ≡ false
IsFound all only place arrival (Some reaction) = (is_wanted only arrival ≡ true) × IsAt all place reaction
