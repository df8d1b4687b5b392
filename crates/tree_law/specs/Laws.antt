-- What holds of tries and of partial matches, over all messages, numbers and definitions.
use Rattle.std.specs.Prelude.{ℕ, ◌+◌, ◌*◌, ◌≤◌, List, [], ◌∷◌, map, length, nat_le, if◌then◌else◌, Option, None, Some}
use Rattle.std.specs.List.{count_by}
use Rattle.join_base.specs.declared.message.Message.{Message}
use Rattle.guard_eval.specs.Meaning.{Assignment, recorded_message}
use Rattle.pattern_core.specs.declared.definition.Definition.{Definition}
use Rattle.pattern_core.specs.Matches.{is_of_kind, partial_matches}
use Rattle.pattern_core.specs.Members.{IsIn}
use Rattle.row_screens.specs.Offers.{Offered}
use Rattle.match_tree.specs.Tries.{tries}
use Rattle.tree_law.specs.Trees.{tries_from}

-- ---- the bound on tries

-- how many patterns of the definition have the kind of the message
abbrev pub pattern_count : Option Message → Definition → ℕ
pattern_count message definition = count_by (is_of_kind message) definition.patterns

-- the partial matches of a definition times its patterns of the message's kind, summed over the definitions
abbrev pub pair_count : List Message → Message → List ℕ → List Definition → ℕ
pair_count messages message live [] = 0
pair_count messages message live (definition ∷ definitions) =
    length (partial_matches messages live definition) * pattern_count (Some message) definition + pair_count messages message live definitions

-- at paths, a number is tried at most at each pair of a path and a pattern of its kind
abbrev pub TriesAreFew : Type 0
TriesAreFew = (o : Offered) (paths : List Assignment) → tries o paths ≤ length paths * pattern_count (recorded_message o.messages o.number) o.definition

-- and a further message at most at each pair of a partial match of a definition and a pattern of its kind there
abbrev pub AllTriesAreFew : Type 0
AllTriesAreFew = (messages : List Message) (message : Message) (live : List ℕ) (rule : ℕ) (definitions : List Definition)
    → tries_from messages message live rule definitions ≤ pair_count messages message live definitions

-- ---- prefixes of partial matches

-- the number where it is at most the latest, and else nothing
abbrev pub slot_up_to : ℕ → Option ℕ → Option ℕ
slot_up_to latest None = None
slot_up_to latest (Some number) = if nat_le number latest then Some number else None

-- the assignment with those of its numbers alone that are at most the latest: its prefix in the order of arrival
abbrev pub up_to : ℕ → Assignment → Assignment
up_to latest slots = map (slot_up_to latest) slots

-- each prefix of a partial match in the order of arrival is a partial match
abbrev pub PrefixesArePartial : Type 0
PrefixesArePartial = (messages : List Message) (live : List ℕ) (definition : Definition) (slots : Assignment) (latest : ℕ)
    → IsIn slots (partial_matches messages live definition) → IsIn (up_to latest slots) (partial_matches messages live definition)
