-- A test of the numbers of a row: behind those that fail it, no wanted pattern may take the offered number.
use Rattle.std.specs.Prelude.{false, ◌≡◌, ◌⊎◌, ℕ, List, [], ◌∷◌, ◌++◌, Bool, true, Option, Some, None, IfSome, IsSomeAnd, slice_get, slice_index, length, nat_le, not, ◌==◌, ◌<◌, ◌≤◌}
use Rattle.std.specs.List.{AllByRecursion, filter, list_all}
use Rattle.std.specs.Ordering.{int_eq}
use Rattle.join_base.specs.declared.message.Message.{Message}
use Rattle.join_base.specs.declared.message.Relation.TheVariants.{Equal}
use Rattle.guard_eval.specs.Condition.{Condition}
use Rattle.guard_eval.specs.Meaning.{Assignment, is_decided, is_filled}
use Rattle.pattern_core.specs.Members.{IsIn}
use Rattle.guard_bound.specs.declared.bound.Bound.{Bound}
use Rattle.guard_bound.specs.declared.same.Same.{Same}
use Rattle.row_screens.specs.declared.screen.Key.{Key}
use Rattle.row_screens.specs.declared.screen.Screen.{Screen}
use Rattle.tree_rows.specs.Routes.{Branch, with_number}
use Rattle.guard_bound.specs.Bound.{IsPair, Says, int_at, meets}
use Rattle.guard_bound.specs.Same.{SaysSame, is_same}
use Rattle.tree_rows.specs.Rows.{node_at}
use Rattle.row_screens.specs.Offers.{Offered, is_free, may_take, takers}
use Rattle.row_screens.specs.Offering.{CanOffer}
use Rattle.row_screens.specs.PlaceSet.{has}
use Rattle.row_screens.specs.Ties.{names, needs_at}
use Rattle.row_screens.specs.Trial.{AllStandWith, AreDecided, stands_at}

-- the equality as a bound
abbrev pub as_bound : Key → Bound
as_bound key = record { field = key.field; relation = Equal; value = key.value }

-- the bound is what a decided conjunct of the definition says
pub record IsBound (o : Offered) (whole : Assignment) (pattern wanted : ℕ) (bound : Bound) : Type 0 where
  pub conjunct : Condition
  pub is_in : IsIn conjunct o.definition.conjuncts
  pub decided : is_decided whole conjunct ≡ true
  pub says : Says o.messages o.number pattern wanted conjunct bound

-- a decided conjunct of the definition says that these texts are equal
pub record IsSaid (o : Offered) (whole : Assignment) (pattern wanted : ℕ) (same : Same) : Type 0 where
  pub conjunct : Condition
  pub is_in : IsIn conjunct o.definition.conjuncts
  pub decided : is_decided whole conjunct ≡ true
  pub says : SaysSame pattern wanted conjunct same

-- the screen tests no more than what decided conjuncts say
pub record AreTests (o : Offered) (whole : Assignment) (pattern : ℕ) (screen : Screen) : Type 0 where
  pub key : IfSome screen.key (λ k. IsBound o whole pattern screen.other (as_bound k))
  pub bounds : AllByRecursion (IsBound o whole pattern screen.other) screen.bounds
  pub same : IfSome screen.same (IsSaid o whole pattern screen.other)
  pub tests : AreDecided o whole screen.tests

abbrev pub passes : List Message → Option Key → ℕ → Bool
passes messages None number = true
passes messages (Some key) number = int_eq (int_at messages number key.field) key.value

-- the number has the screen's key, and meets its bounds and its text
pub record Passes (o : Offered) (screen : Screen) (number : ℕ) : Type 0 where
  pub key : passes o.messages screen.key number ≡ true
  pub bounds : list_all (λ bound. meets o.messages bound number) screen.bounds ≡ true
  pub same : is_same o.messages o.number screen.same number ≡ true

-- the screen asks the conjunct at the place: it is one of the tests, or it stands beside each number that passes
abbrev pub IsAsked : Offered → ℕ → Screen → ℕ → Type 0
IsAsked o pattern screen place =
    (has screen.tests place ≡ true) ⊎ ((number : ℕ) (whole : Assignment) → IsPair o.number pattern screen.other number whole → Passes o screen number → stands_at o whole place ≡ true)

-- the screen asks each conjunct that ties the two patterns and is decided
pub record AsksAll (o : Offered) (whole : Assignment) (pattern : ℕ) (screen : Screen) : Type 0 where
  pub at :
      (k : ℕ) → k < 64 → names pattern (needs_at o.definition.conjuncts k) ≡ true → names screen.other (needs_at o.definition.conjuncts k) ≡ true
      → list_all (is_filled whole) (needs_at o.definition.conjuncts k) ≡ true → IsAsked o pattern screen k

-- the bound is one more, or the first equality
abbrev pub IsAdded : Screen → Screen → Bound → Type 0
IsAdded before now bound =
    ((now.key ≡ before.key) × (now.bounds ≡ before.bounds ++ bound ∷ [])) ⊎ ((before.key ≡ None) × ((now.bounds ≡ before.bounds) × IsSomeAnd now.key (λ key. as_bound key ≡ bound)))

-- the pattern is another than the row's, and may take the offered number
pub record IsOther (o : Offered) (slots : Assignment) (pattern other : ℕ) : Type 0 where
  pub may : may_take o slots other ≡ true
  pub apart : not (other == pattern) ≡ true

-- one pattern is wanted, and the screen's tests are decided where it and the row's pattern have a number, and are all
-- that the two decide together
pub record Screens (o : Offered) (slots : Assignment) (pattern : ℕ) (wanted : List ℕ) (screen : Screen) : Type 0 where
  pub alone : wanted ≡ screen.other ∷ []
  pub tested : AreTests o (with_number (with_number slots pattern o.number) screen.other o.number) pattern screen
  pub asks : AsksAll o (with_number (with_number slots pattern o.number) screen.other o.number) pattern screen

-- a pattern that was free has a number too
pub record IsWith (slots : Assignment) (pattern number : ℕ) (longer : Assignment) : Type 0 where
  pub free : slice_get slots pattern ≡ Some None
  pub is : longer ≡ with_number slots pattern number

-- those between the two places have not the key's value
abbrev pub AreLacking : List Message → Option Key → List ℕ → ℕ → ℕ → Type 0
AreLacking messages key numbers from to = (i : ℕ) → from ≤ i → i < to → passes messages key (slice_index numbers i) ≡ false

abbrev pub key_of : Option Screen → Option Key
key_of None = None
key_of (Some screen) = screen.key

-- the offered number may be tried behind the row's number, which the pattern has no other for
pub record IsOffered (o : Offered) (slots : Assignment) (pattern number : ℕ) : Type 0 where
  pub can : CanOffer o (with_number slots pattern number)
  pub free : is_free slots pattern ≡ true

-- from the place on, all numbers of the row may be tried
abbrev pub AreOffered : Offered → Assignment → ℕ → List Branch → ℕ → Type 0
AreOffered o slots pattern row from = (i : ℕ) → from ≤ i → i < length row → IsOffered o slots pattern (node_at row i).number

-- the definition no longer sees the number, or no pattern may take the offered one behind it
abbrev pub IsWorthless : Offered → Assignment → ℕ → ℕ → Type 0
IsWorthless o slots pattern number = (nat_le o.oldest number ≡ false) ⊎ (takers o (with_number slots pattern number) ≡ [])

-- those between the two places
abbrev pub AreWorthless : Offered → Assignment → ℕ → List Branch → ℕ → ℕ → Type 0
AreWorthless o slots pattern row from to = (i : ℕ) → from ≤ i → i < to → IsWorthless o slots pattern (node_at row i).number

-- where the row has a screen, no conjunct is left to ask behind the number
abbrev pub AreAsked : Offered → Assignment → ℕ → Option Screen → ℕ → Type 0
AreAsked o slots pattern screen number = IfSome screen (λ s. AllStandWith o (with_number slots pattern number) (filter (λ p. not (p == pattern)) (takers o slots)))
