-- Whether the conjuncts of a definition stand at a path: those that are decided have to be true. And how many of its patterns are free.
use Rattle.std.specs.Prelude.{◌≡◌, ℕ, ◌+◌, ◌<◌, ◌≤◌, List, [], ◌∷◌, length, Bool, true, false, not, ◌&&◌, ◌||◌, Option, Some, None, slice_get}
use Rattle.std.specs.List.{AllByRecursion}
use Rattle.join_base.specs.declared.message.Message.{Message}
use Rattle.guard_eval.specs.Condition.{Condition}
use Rattle.guard_eval.specs.Meaning.{Assignment, is_decided, is_true}
use Rattle.row_screens.specs.Offers.{Offered}
use Rattle.row_screens.specs.PlaceSet.{has}
use Rattle.tree_rows.specs.Routes.{with_number}
use Rattle.row_screens.specs.Ties.{names, needs_at}
use Rattle.row_screens.specs.declared.place_set.PlaceSet.{PlaceSet}

abbrev pub stands_in : List Message → Assignment → Option Condition → Bool
stands_in messages slots None = true
stands_in messages slots (Some c) = not (is_decided slots c) || is_true messages slots c

-- the conjunct at the place, if there is one, is true or not decided
abbrev pub stands_at : Offered → Assignment → ℕ → Bool
stands_at o slots place = stands_in o.messages slots (slice_get o.definition.conjuncts place)

-- the conjunct at the place is decided
pub record IsDecidedAt (o : Offered) (slots : Assignment) (place : ℕ) : Type 0 where
  pub conjunct : Condition
  pub at : slice_get o.definition.conjuncts place ≡ Some conjunct
  pub decided : is_decided slots conjunct ≡ true

-- each conjunct of the set is decided
abbrev pub AreDecided : Offered → Assignment → PlaceSet → Type 0
AreDecided o slots places = (k : ℕ) → k < 64 → has places k ≡ true → IsDecidedAt o slots k

-- each conjunct of the set stands
abbrev pub AllStand : Offered → Assignment → PlaceSet → Type 0
AllStand o slots places = (k : ℕ) → k < 64 → has places k ≡ true → stands_at o slots k ≡ true

-- each of the first 64 conjuncts outside the set stands
abbrev pub StandOutside : Offered → PlaceSet → Assignment → Type 0
StandOutside o places slots = (k : ℕ) → k < 64 → has places k ≡ false → stands_at o slots k ≡ true

-- they do wherever one of the patterns has the offered number too
abbrev pub AllStandOutside : Offered → PlaceSet → Assignment → List ℕ → Type 0
AllStandOutside o places slots patterns = AllByRecursion (λ p. StandOutside o places (with_number slots p o.number)) patterns

-- of at most 64 conjuncts none of the set has a field of the pattern
pub record AsksNone (o : Offered) (pattern : ℕ) (asked : PlaceSet) : Type 0 where
  pub few : length o.definition.conjuncts ≤ 64
  pub none : (k : ℕ) → k < 64 → (names pattern (needs_at o.definition.conjuncts k) && has asked k) ≡ false

-- each of the first 64 conjuncts stands wherever one of the patterns has the offered number too
abbrev pub AllStandWith : Offered → Assignment → List ℕ → Type 0
AllStandWith o slots patterns = AllByRecursion (λ p. (k : ℕ) → k < 64 → stands_at o (with_number slots p o.number) k ≡ true) patterns

abbrev pub free_of : Option ℕ → ℕ
free_of None = 1
free_of (Some n) = 0

-- how many patterns are free
abbrev pub free_count : Assignment → ℕ
free_count [] = 0
free_count (slot ∷ slots) = free_of slot + free_count slots
