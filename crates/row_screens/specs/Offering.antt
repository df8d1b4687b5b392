-- When a number may be offered to paths.
use Rattle.std.specs.Prelude.{◌≡◌, ℕ, List, true, Some, None, slice_get}
use Rattle.std.specs.List.{AllByRecursion}
use Rattle.join_base.specs.declared.message.Message.{Message}
use Rattle.guard_eval.specs.Meaning.{Assignment, number_at}
use Rattle.value_index.specs.Index.{Index, Has}
use Rattle.pattern_core.specs.Matches.{is_agreeable}
use Rattle.pattern_core.specs.Suits.{DefinitionSuits, IsRecorded, SlotsSuit}
use Rattle.tree_rows.specs.Routes.{Route, filled}
use Rattle.row_screens.specs.Offers.{Offered, may_take}
use Rattle.row_screens.specs.Below.{AreBelow, Climbs}
use Rattle.row_screens.specs.declared.offer.Offer.{Offer}

abbrev pub offered : Offer → Offered
offered offer = record { messages = offer.messages.now; index = offer.index.now; definition = offer.definition.now; rule = offer.rule; number = offer.number; oldest = offer.oldest }

-- the index has each number of the path
abbrev pub AreIndexed : Index → List Message → Assignment → Type 0
AreIndexed index messages slots = (pattern number : ℕ) → number_at slots pattern ≡ Some number → Has index messages number

-- the definition and the path suit the messages, the path is agreeable and indexed, and the number is recorded and after
-- all of its numbers
pub record CanOffer (o : Offered) (slots : Assignment) : Type 0 where
  pub definition : DefinitionSuits o.messages o.definition
  pub suits : SlotsSuit o.messages o.definition.patterns slots
  pub agreeable : is_agreeable o.messages o.definition.conjuncts slots ≡ true
  pub indexed : AreIndexed o.index o.messages slots
  pub recorded : IsRecorded o.messages o.number
  pub below : AreBelow o.number slots

-- the pattern is there and has no number
abbrev pub MayTry : Assignment → ℕ → Type 0
MayTry slots pattern = slice_get slots pattern ≡ Some None

-- the pattern may take the number beside the others
abbrev pub MayTake : Offered → Assignment → ℕ → Type 0
MayTake o slots pattern = may_take o slots pattern ≡ true

-- the route climbs from the path, and the number may be offered at its end
pub record LeadsOn (o : Offered) (slots : Assignment) (route : Route) : Type 0 where
  pub climbs : Climbs slots route
  pub can : CanOffer o (filled slots route)

abbrev pub LeadOn : Offered → Assignment → List Route → Type 0
LeadOn o slots routes = AllByRecursion (LeadsOn o slots) routes
