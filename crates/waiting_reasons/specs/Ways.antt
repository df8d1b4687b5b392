-- How a message may stand in a definition: the agreeable assignments that have it, as a list that computes, and the
-- fullest of them.
use Rattle.std.specs.Prelude.{ℕ, ◌+◌, List, [], ◌∷◌, ◌++◌, Bool, not, ◌&&◌, nat_lt, Option, None, Some, length, replicate, slice_index, slice_set, if◌then◌else◌}
use Rattle.std.specs.List.{flat_map}
use Rattle.join_base.specs.declared.message.Message.{Message}
use Rattle.join_base.specs.Taken.{contains_number}
use Rattle.guard_eval.specs.Meaning.{Assignment, recorded_message, number_at, is_slot_filled}
use Rattle.pattern_core.specs.declared.definition.Definition.{Definition}
use Rattle.pattern_core.specs.Matches.{is_of_kind, holds_number, is_agreeable}
use Rattle.pattern_core.specs.Window.{seen_of}
use Rattle.waiting_reasons.specs.declared.reason.Reason.{Reason}
use Rattle.waiting_reasons.specs.declared.reason.Reason.TheVariants.{Passed, Misfits, Fullest}

-- no pattern has a number
abbrev pub no_numbers : Definition → Assignment
no_numbers definition = replicate (length definition.patterns) None

-- the number may stand at the pattern beside the others: the message has its kind, the pattern is empty, no pattern has
-- the number, and every conjunct that is then decided is true
abbrev pub may_stand : List Message → Definition → Assignment → ℕ → ℕ → Bool
may_stand messages definition slots place number =
    is_of_kind (recorded_message messages number) (slice_index definition.patterns place)
    && (not (is_slot_filled (number_at slots place))
    && (not (holds_number slots number) && is_agreeable messages definition.conjuncts (slice_set slots place (Some number))))

-- the assignment that has the number too, where it may stand there
abbrev pub longer : List Message → Definition → Assignment → ℕ → ℕ → List Assignment
longer messages definition slots place number =
    if may_stand messages definition slots place number then slice_set slots place (Some number) ∷ [] else []

-- the assignments that have one of the numbers at the pattern too
abbrev pub longer_at : List Message → Definition → List ℕ → ℕ → Assignment → List Assignment
longer_at messages definition seen place slots = flat_map (longer messages definition slots place) seen

-- the assignments, and behind them those that have one of the numbers at the pattern too
abbrev pub grown : List Message → Definition → List ℕ → ℕ → List Assignment → List Assignment
grown messages definition seen place ways = ways ++ flat_map (longer_at messages definition seen place) ways

-- the same at each of the patterns that are left, of which the first has this place
abbrev pub grown_at : List Message → Definition → List ℕ → ℕ → List ℕ → List Assignment → List Assignment
grown_at messages definition seen place [] ways = ways
grown_at messages definition seen place (kind ∷ kinds) ways = grown_at messages definition seen (place + 1) kinds (grown messages definition seen place ways)

-- the number alone, at each of the patterns that are left at which it may stand
abbrev pub alone_at : List Message → Definition → ℕ → ℕ → List ℕ → List Assignment
alone_at messages definition number place [] = []
alone_at messages definition number place (kind ∷ kinds) =
    longer messages definition (no_numbers definition) place number ++ alone_at messages definition number (place + 1) kinds

-- all agreeable assignments of numbers that are seen, among them this one
abbrev pub ways : List Message → Definition → List ℕ → ℕ → List Assignment
ways messages definition seen number =
    grown_at messages definition seen 0 definition.patterns (alone_at messages definition number 0 definition.patterns)

-- how many patterns have a number
abbrev pub slot_count : Option ℕ → ℕ
slot_count None = 0
slot_count (Some number) = 1

abbrev pub filled_count : Assignment → ℕ
filled_count [] = 0
filled_count (slot ∷ slots) = slot_count slot + filled_count slots

-- the fuller of two, and the first where they are equally full
abbrev pub fuller : Assignment → Option Assignment → Option Assignment
fuller slots None = Some slots
fuller slots (Some best) = if nat_lt (filled_count slots) (filled_count best) then Some best else Some slots

-- the first of the fullest, where the best behind them is given
abbrev pub fullest_before : Option Assignment → List Assignment → Option Assignment
fullest_before best [] = best
fullest_before best (slots ∷ more) = fuller slots (fullest_before best more)

abbrev pub fullest : List Assignment → Option Assignment
fullest among = fullest_before None among

-- no assignment has the message, or this is the fullest
abbrev pub reason_by : Option Assignment → Reason
reason_by None = Misfits
reason_by (Some slots) = Fullest slots

-- why the definition doesn't take a message, among the numbers that are left
abbrev pub reason_of : List Message → List ℕ → Definition → ℕ → Reason
reason_of messages left definition number =
    if contains_number (seen_of definition (length messages) left) number
    then reason_by (fullest (ways messages definition (seen_of definition (length messages) left) number))
    else Passed
