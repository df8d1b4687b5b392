-- What private functions ask for.
use Rattle.std.specs.Prelude.{◌≡◌, ℕ, List, Some, length, slice_set}
use Rattle.join_base.specs.declared.message.Message.{Message}
use Rattle.guard_eval.specs.Meaning.{Assignment}
use Rattle.pattern_core.specs.declared.definition.Definition.{Definition}
use Rattle.pattern_core.specs.Suits.{DefinitionSuits, SlotsSuit}
use Rattle.script_types.specs.declared.plan.Rule.{Rule}
use Rattle.waiting_reasons.specs.declared.reason.Reason.{Reason}
use Rattle.waiting_reasons.specs.declared.reason.Reason.TheVariants.{Passed, Misfits, Fullest}

abbrev pub RuleSuits : List Message → Rule → Type 0
RuleSuits messages rule = DefinitionSuits messages rule.definition

-- with the number at the pattern too the assignment suits
abbrev pub SuitsWith : List Message → List ℕ → Assignment → ℕ → ℕ → Type 0
SuitsWith messages kinds slots place number = SlotsSuit messages kinds (slice_set slots place (Some number))

-- the assignment has a place for each pattern
abbrev pub HasPatterns : Definition → Assignment → Type 0
HasPatterns definition slots = length slots ≡ length definition.patterns

-- the assignment of a reason suits
abbrev pub ReasonSuits : List Message → List ℕ → Reason → Type 0
ReasonSuits messages kinds Passed = Unit {0}
ReasonSuits messages kinds Misfits = Unit {0}
ReasonSuits messages kinds (Fullest slots) = SlotsSuit messages kinds slots

-- it has so many patterns
abbrev pub ReasonCounts : ℕ → Reason → Type 0
ReasonCounts patterns Passed = Unit {0}
ReasonCounts patterns Misfits = Unit {0}
ReasonCounts patterns (Fullest slots) = length slots ≡ patterns
