-- What a tree holds between two arrivals, and what an arrival brings.
use Rattle.std.specs.Prelude.{ℕ, ◌+◌, List, [], ◌∷◌, ◌++◌, length, not}
use Rattle.join_base.specs.declared.message.Message.{Message}
use Rattle.guard_eval.specs.Meaning.{Assignment}
use Rattle.pattern_core.specs.declared.definition.Definition.{Definition}
use Rattle.pattern_core.specs.Matches.{partial_matches, complete_matches}
use Rattle.pattern_core.specs.Members.{IsIn}
use Rattle.pattern_core.specs.Suits.{IsRecorded}
use Rattle.pattern_core.specs.Window.{oldest_seen}
use Rattle.std.specs.List.{filter}
use Rattle.join_base.specs.Taken.{contains_number}
use Rattle.value_index.specs.Index.{no_index}
use Rattle.row_screens.specs.Offers.{Offered}
use Rattle.match_tree.specs.Tree.{SameMembers}

-- the paths are the partial matches of the recorded messages and live numbers
abbrev pub ArePartial : List Message → List ℕ → Definition → List Assignment → Type 0
ArePartial messages live definition paths = SameMembers paths (partial_matches messages live definition)

-- no complete match waits
abbrev pub NoneWaits : List Message → List ℕ → Definition → Type 0
NoneWaits messages live definition = (slots : Assignment) → ¬ IsIn slots (complete_matches messages live definition)

-- each live number is that of a recorded message
abbrev pub AreLive : List Message → List ℕ → Type 0
AreLive messages live = (number : ℕ) → IsIn number live → IsRecorded messages number

-- the recorded messages with one more, its number, and the live numbers with it
abbrev pub messages_more : List Message → Message → List Message
messages_more messages message = messages ++ message ∷ []

abbrev pub number_more : List Message → ℕ
number_more messages = length messages + 1

abbrev pub live_more : List Message → List ℕ → List ℕ
live_more messages live = live ++ number_more messages ∷ []

-- the further message, offered to the paths of a definition
abbrev pub offer_more : List Message → Message → Definition → ℕ → Offered
offer_more messages message definition rule = record {
  messages = messages_more messages message;
  index = no_index;
  definition = definition;
  rule = rule;
  number = number_more messages;
  oldest = oldest_seen definition.window (number_more messages);
}

-- the live numbers without those that a firing takes
abbrev pub left_of : List ℕ → List ℕ → List ℕ
left_of live taken = filter (λ n. not (contains_number taken n)) live
