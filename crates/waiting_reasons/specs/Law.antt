-- The reasons in the words of assignments.
use Rattle.std.specs.Prelude.{◌≡◌, ℕ, ◌≤◌, List, length, true, false, None, Some, slice_get, slice_index, slice_set}
use Rattle.join_base.specs.declared.message.Message.{Message}
use Rattle.join_base.specs.Taken.{contains_number}
use Rattle.guard_eval.specs.Condition.{Condition}
use Rattle.guard_eval.specs.Meaning.{Assignment, is_decided, is_true}
use Rattle.pattern_core.specs.declared.definition.Definition.{Definition}
use Rattle.pattern_core.specs.Assigns.{Assigns, MayTake}
use Rattle.pattern_core.specs.Matches.{holds_number, is_agreeable}
use Rattle.pattern_core.specs.Members.{IsIn}
use Rattle.pattern_core.specs.Window.{seen_of}
use Rattle.waiting_reasons.specs.declared.reason.Reason.{Reason}
use Rattle.waiting_reasons.specs.declared.reason.Reason.TheVariants.{Passed, Misfits, Fullest}
use Rattle.waiting_reasons.specs.Guards.{first_false}
use Rattle.waiting_reasons.specs.Ways.{filled_count, reason_of}

-- an assignment of numbers that the definition sees, among them this one, that makes each decided conjunct true
pub record IsWay (messages : List Message) (left : List ℕ) (definition : Definition) (number : ℕ) (slots : Assignment) : Type 0 where
  pub assigns : Assigns messages (seen_of definition (length messages) left) definition.patterns slots
  pub agreeable : is_agreeable messages definition.conjuncts slots ≡ true
  pub has : holds_number slots number ≡ true

-- what a reason says: the definition doesn't see the message; or there is no way; or this is a way, and none is fuller
abbrev pub IsReason : List Message → List ℕ → Definition → ℕ → Reason → Type 0
IsReason messages left definition number Passed = contains_number (seen_of definition (length messages) left) number ≡ false
IsReason messages left definition number Misfits = (slots : Assignment) → ¬ IsWay messages left definition number slots
IsReason messages left definition number (Fullest slots) =
    IsWay messages left definition number slots × ((other : Assignment) → IsWay messages left definition number other → filled_count other ≤ filled_count slots)

abbrev pub ReasonsAreTrue : Type 0
ReasonsAreTrue = (messages : List Message) (left : List ℕ) (definition : Definition) (number : ℕ) → IsReason messages left definition number (reason_of messages left definition number)

-- a conjunct of the definition that is decided at the assignment and false
pub record IsFalse (messages : List Message) (definition : Definition) (slots : Assignment) (conjunct : Condition) : Type 0 where
  pub among : IsIn conjunct definition.conjuncts
  pub decided : is_decided slots conjunct ≡ true
  pub untrue : is_true messages slots conjunct ≡ false

-- a further number that a pattern could take makes a conjunct false there, and this is what is found
pub record IsHindered (messages : List Message) (definition : Definition) (slots : Assignment) : Type 0 where
  pub conjunct : Condition
  pub found : first_false messages slots definition.conjuncts ≡ Some conjunct
  pub is_false : IsFalse messages definition slots conjunct

-- at the fullest one each message that the definition sees, and that an empty pattern could take beside the others, is hindered
abbrev pub FurtherAreHindered : Type 0
FurtherAreHindered = (messages : List Message) (left : List ℕ) (definition : Definition) (number : ℕ) (slots : Assignment) (place further : ℕ) → reason_of messages left definition number ≡ Fullest slots
    → slice_get slots place ≡ Some None → MayTake messages (seen_of definition (length messages) left) (slice_index definition.patterns place) slots further → IsHindered messages definition (slice_set slots place (Some further))
