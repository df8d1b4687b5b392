-- What is written of messages that wait. Each line ends with LF.
use Rattle.std.specs.Prelude.{ℕ, ◌+◌, ◌==◌, List, [], ◌∷◌, ◌++◌, Bool, Option, None, Some, codes, length, slice_get, slice_set, take, if◌then◌else◌}
use Rattle.std.specs.List.{flat_map, list_any}
use Rattle.std.specs.Fmt.{decimal}
use Rattle.join_base.specs.declared.message.Message.{Message}
use Rattle.join_base.specs.declared.message.Value.{Value}
use Rattle.join_base.specs.Taken.{contains_number}
use Rattle.guard_eval.specs.Condition.{Condition}
use Rattle.guard_eval.specs.Meaning.{Assignment, recorded_message, number_at, value_at}
use Rattle.guard_eval.specs.declared.term.Place.{Place}
use Rattle.pattern_core.specs.Matches.{is_full, is_of_kind, usable}
use Rattle.pattern_core.specs.Window.{is_seen}
use Rattle.script_types.specs.declared.plan.Plan.{Plan}
use Rattle.script_types.specs.declared.plan.Rule.{Rule}
use Rattle.fair_semantics.specs.declared.run.ActorRun.{ActorRun}
use Rattle.fair_semantics.specs.declared.run.Entry.{Entry}
use Rattle.fair_semantics.specs.declared.run.Run.{Run}
use Rattle.fair_semantics.specs.Fair.{rules_of}
use Rattle.fair_semantics.specs.Step.{recorded_messages}
use Rattle.arrival_log.specs.LogText.{message_text, value_text}
use Rattle.plan_text.specs.GuardText.{condition_text}
use Rattle.plan_text.specs.PlanNames.{Variables, row_of, variable_name}
use Rattle.plan_text.specs.PlanText.{line_end, pattern_text}
use Rattle.waiting_reasons.specs.declared.reason.Reason.{Reason}
use Rattle.waiting_reasons.specs.declared.reason.Reason.TheVariants.{Passed, Misfits, Fullest}
use Rattle.waiting_reasons.specs.Gone.{fate_text, taker}
use Rattle.waiting_reasons.specs.Guards.{first_false, first_untrue, has_place, places_of}
use Rattle.waiting_reasons.specs.Ways.{filled_count, no_numbers, reason_of}

-- ---- values and messages

-- a value as in the log, and nothing where there is none
abbrev pub value_or_nothing : Option Value → List ℕ
value_or_nothing None = []
value_or_nothing (Some value) = value_text value

-- `, NAME = VALUE`
abbrev pub value_note : Variables → List Message → Assignment → Place → List ℕ
value_note variables messages slots place =
    codes ", " ++ (variable_name variables place ++ (codes " = " ++ value_or_nothing (value_at messages slots place)))

-- that of each place that no earlier one is
abbrev pub value_notes : Variables → List Message → Assignment → List Place → List Place → List ℕ
value_notes variables messages slots earlier [] = []
value_notes variables messages slots earlier (place ∷ more) =
    (if has_place earlier place then [] else value_note variables messages slots place) ++ value_notes variables messages slots (earlier ++ place ∷ []) more

-- `CONJUNCT is false, NAME = VALUE`
abbrev pub false_text : Variables → List Message → Assignment → Condition → List ℕ
false_text variables messages slots conjunct =
    condition_text variables conjunct ++ (codes " is false" ++ value_notes variables messages slots [] (places_of conjunct))

-- a conjunct that is false, where there is one
abbrev pub obstacle_text : Variables → List Message → Assignment → Option Condition → List ℕ
obstacle_text variables messages slots None = codes "it fits"
obstacle_text variables messages slots (Some conjunct) = false_text variables messages slots conjunct

abbrev pub text_of_message : Plan → Option Message → List ℕ
text_of_message plan None = []
text_of_message plan (Some message) = message_text plan message

-- `N KIND(VALUES)`
abbrev pub numbered_text : Plan → List Message → ℕ → List ℕ
numbered_text plan messages number = decimal number ++ (codes " " ++ text_of_message plan (recorded_message messages number))

-- ---- one definition, pattern by pattern

-- what is false where the assignment has the number at the pattern too
abbrev pub further_text : Rule → List Message → Assignment → ℕ → ℕ → List ℕ
further_text rule messages slots place number =
    obstacle_text rule.variables messages (slice_set slots place (Some number)) (first_false messages (slice_set slots place (Some number)) rule.definition.conjuncts)

-- why a message that waits doesn't stand at the pattern: the window has passed it, or a conjunct is false
abbrev pub candidate_text : Rule → List Message → Assignment → ℕ → ℕ → List ℕ
candidate_text rule messages slots place number =
    if is_seen rule.definition.window (length messages) number then further_text rule messages slots place number else codes "the window has passed it"

-- `    N KIND(VALUES): WHY`
abbrev pub candidate_line : Plan → Rule → List Message → Assignment → ℕ → ℕ → List ℕ
candidate_line plan rule messages slots place number =
    codes "    " ++ (numbered_text plan messages number ++ (codes ": " ++ (candidate_text rule messages slots place number ++ line_end)))

-- `none waits`, `1 waits` or `N wait`
abbrev pub waits_text : ℕ → List ℕ
waits_text count = if count == 0 then codes "none waits" else (if count == 1 then codes "1 waits" else decimal count ++ codes " wait")

-- `  PATTERN`
abbrev pub pattern_front : Plan → Rule → ℕ → ℕ → List ℕ
pattern_front plan rule place kind = codes "  " ++ pattern_text plan (kind, row_of rule.variables place)

-- `  PATTERN is missing: N wait`, and of those that wait the first five
abbrev pub missing_lines : Plan → Rule → List Message → Assignment → ℕ → ℕ → List ℕ → List ℕ
missing_lines plan rule messages slots place kind waiting =
    pattern_front plan rule place kind
    ++ (codes " is missing: "
    ++ (waits_text (length waiting) ++ (line_end ++ flat_map (candidate_line plan rule messages slots place) (take 5 waiting))))

-- `  PATTERN is N`
abbrev pub standing_line : Plan → Rule → ℕ → ℕ → ℕ → List ℕ
standing_line plan rule place kind number = pattern_front plan rule place kind ++ (codes " is " ++ (decimal number ++ line_end))

-- that, or what is missing; those that wait are of the kind, and stand at no other pattern
abbrev pub slot_lines : Plan → Rule → List Message → List ℕ → Assignment → ℕ → ℕ → Option ℕ → List ℕ
slot_lines plan rule messages left slots place kind (Some number) = standing_line plan rule place kind number
slot_lines plan rule messages left slots place kind None = missing_lines plan rule messages slots place kind (usable messages left kind slots)

-- the patterns that are left, of which the first has this place
abbrev pub pattern_lines : Plan → Rule → List Message → List ℕ → Assignment → ℕ → List ℕ → List ℕ
pattern_lines plan rule messages left slots place [] = []
pattern_lines plan rule messages left slots place (kind ∷ kinds) =
    slot_lines plan rule messages left slots place kind (number_at slots place) ++ pattern_lines plan rule messages left slots (place + 1) kinds

-- `  WHY` where no pattern is missing: a conjunct is false that has no variable
abbrev pub full_line : Rule → List Message → Assignment → List ℕ
full_line rule messages slots =
    if is_full slots then codes "  " ++ (obstacle_text rule.variables messages slots (first_untrue messages slots rule.definition.conjuncts) ++ line_end) else []

-- `  PATTERN: WHY` where the pattern has the message's kind: what is false for the message alone
abbrev pub misfit_line : Plan → Rule → List Message → ℕ → ℕ → ℕ → List ℕ
misfit_line plan rule messages number place kind =
    if is_of_kind (recorded_message messages number) kind
    then pattern_front plan rule place kind ++ (codes ": " ++ (further_text rule messages (no_numbers rule.definition) place number ++ line_end))
    else []

-- that of the patterns that are left, of which the first has this place
abbrev pub misfit_lines : Plan → Rule → List Message → ℕ → ℕ → List ℕ → List ℕ
misfit_lines plan rule messages number place [] = []
misfit_lines plan rule messages number place (kind ∷ kinds) = misfit_line plan rule messages number place kind ++ misfit_lines plan rule messages number (place + 1) kinds

abbrev pub reason_lines : Plan → Rule → List Message → List ℕ → ℕ → Reason → List ℕ
reason_lines plan rule messages left number Passed = []
reason_lines plan rule messages left number Misfits = misfit_lines plan rule messages number 0 rule.definition.patterns
reason_lines plan rule messages left number (Fullest slots) = pattern_lines plan rule messages left slots 0 rule.definition.patterns ++ full_line rule messages slots

-- ---- one message

-- `it has K of P`
abbrev pub filled_text : ℕ → Assignment → List ℕ
filled_text patterns slots = codes "it has " ++ (decimal (filled_count slots) ++ (codes " of " ++ decimal patterns))

-- of a definition with so many patterns
abbrev pub reason_text : ℕ → Reason → List ℕ
reason_text patterns Passed = codes "the window has passed it"
reason_text patterns Misfits = codes "it fits no pattern"
reason_text patterns (Fullest slots) = filled_text patterns slots

-- `rule R: REASON`
abbrev pub rule_note : ℕ → Rule → Reason → List ℕ
rule_note number rule reason = codes "rule " ++ (decimal number ++ (codes ": " ++ reason_text (length rule.definition.patterns) reason))

-- the definition has a pattern of the message's kind
abbrev pub takes_kind : List Message → ℕ → Rule → Bool
takes_kind messages number rule = list_any (is_of_kind (recorded_message messages number)) rule.definition.patterns

-- nothing, or that no definition has such a pattern
abbrev pub untaken_text : List Rule → List Message → ℕ → List ℕ
untaken_text rules messages number = if list_any (takes_kind messages number) rules then [] else codes "; no rule takes it"

-- `; rule R: REASON` where the definition has a pattern of its kind
abbrev pub taken_note : List Message → List ℕ → ℕ → ℕ → Rule → List ℕ
taken_note messages left number from rule =
    if takes_kind messages number rule then codes "; " ++ rule_note from rule (reason_of messages left rule.definition number) else []

-- that of the definitions that are left, of which the first has this number
abbrev pub rule_notes : List Message → List ℕ → ℕ → ℕ → List Rule → List ℕ
rule_notes messages left number from [] = []
rule_notes messages left number from (rule ∷ rules) = taken_note messages left number from rule ++ rule_notes messages left number (from + 1) rules

-- `N KIND(VALUES); rule R: REASON; rule R: REASON`
abbrev pub message_line : Plan → List Rule → List Message → List ℕ → ℕ → List ℕ
message_line plan rules messages left number =
    numbered_text plan messages number ++ (rule_notes messages left number 1 rules ++ (untaken_text rules messages number ++ line_end))

-- `rule R: REASON`, and behind it what the reason rests on
abbrev pub rule_lines : Plan → List Message → List ℕ → ℕ → ℕ → Rule → Reason → List ℕ
rule_lines plan messages left number from rule reason = rule_note from rule reason ++ (line_end ++ reason_lines plan rule messages left number reason)

-- these where the definition has a pattern of the message's kind
abbrev pub taken_lines : Plan → List Message → List ℕ → ℕ → ℕ → Rule → List ℕ
taken_lines plan messages left number from rule =
    if takes_kind messages number rule then rule_lines plan messages left number from rule (reason_of messages left rule.definition number) else []

-- those of the definitions that are left, of which the first has this number
abbrev pub rules_lines : Plan → List Message → List ℕ → ℕ → ℕ → List Rule → List ℕ
rules_lines plan messages left number from [] = []
rules_lines plan messages left number from (rule ∷ rules) = taken_lines plan messages left number from rule ++ rules_lines plan messages left number (from + 1) rules

-- `N KIND(VALUES)`, and then the lines of each definition that has a pattern of its kind
abbrev pub message_lines : Plan → List Rule → List Message → List ℕ → ℕ → List ℕ
message_lines plan rules messages left number =
    numbered_text plan messages number ++ (untaken_text rules messages number ++ (line_end ++ rules_lines plan messages left number 1 rules))

-- ---- a message that doesn't wait

-- `N did not arrive`; or `N KIND(VALUES)`, and what became of it
abbrev pub gone_by : Plan → List Entry → List Message → ℕ → Option Message → List ℕ
gone_by plan entries messages number None = decimal number ++ (codes " did not arrive" ++ line_end)
gone_by plan entries messages number (Some message) = numbered_text plan messages number ++ (fate_text (taker number entries) ++ line_end)

abbrev pub gone_line : Plan → List Entry → List Message → ℕ → List ℕ
gone_line plan entries messages number = gone_by plan entries messages number (recorded_message messages number)

-- ---- an actor at the end of its run

abbrev pub entries_in : Option ActorRun → List Entry
entries_in None = []
entries_in (Some own) = own.entries

abbrev pub left_in : Option ActorRun → List ℕ
left_in None = []
left_in (Some own) = own.left

-- a line for each message that waits, or that none does
abbrev pub waiting_lines : Plan → List Rule → List Message → List ℕ → List ℕ
waiting_lines plan rules messages left =
    if length left == 0 then codes "nothing waits" ++ line_end else flat_map (message_line plan rules messages left) left

-- all that wait in a line each; or one of them in full, or what became of one that doesn't
abbrev pub why_lines : Plan → List Rule → List Entry → List Message → List ℕ → Option ℕ → List ℕ
why_lines plan rules entries messages left None = waiting_lines plan rules messages left
why_lines plan rules entries messages left (Some number) =
    if contains_number left number then message_lines plan rules messages left number else gone_line plan entries messages number

-- why the messages of the actor wait at the end of the run, or why this one does
abbrev pub why_text : Plan → Run → ℕ → Option ℕ → List ℕ
why_text plan run actor wanted =
    why_lines plan (rules_of (slice_get plan.actors actor)) (entries_in (slice_get run.actors actor)) (recorded_messages (entries_in (slice_get run.actors actor))) (left_in (slice_get run.actors actor)) wanted
