-- A list after one of its items was lent.
use Rattle.std.specs.Prelude.{ℕ, List, slice_set}
use Rattle.std.specs.Borrow.{Lends, MutBor, Fml}
use denote.RattleType.{RattleType}
use Rattle.join_base.specs.contracts.items.Items as items

-- the list ends with the last value behind r at this place
abbrev pub LendsItem : (R : RattleType) → MutBor (List R.Denot) → ℕ → MutBor R.Denot → Fml
LendsItem R s i r = Lends (items.the_row R) R s r (slice_set s.now i)
