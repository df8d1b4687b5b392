-- Answers that are found both in queues and on a board.
use Rattle.std.specs.Prelude.{◌≡◌, ℕ, List, Option, Some, slice_get}
use Rattle.join_base.specs.declared.message.Value.{Value}
use Rattle.pattern_core.specs.Members.{IsIn}
use Rattle.ask_board.specs.declared.view.Ask.{Ask}
use Rattle.feed_answers.specs.Answers.{from_one}
use Rattle.answerer.specs.declared.reading.Answerer.{Answerer}
use Rattle.answerer.specs.Answered.{known}

-- where the ask is of the feed and there is a queue of its actor, that queue has this value for it
abbrev pub IsRight : List (List (Option Value)) → ℕ → Ask → Value → Type 0
IsRight queues feed ask value = ask.feed ≡ feed → (queue : List (Option Value)) → slice_get queues ask.actor ≡ Some queue → from_one queue ask.place ≡ Some (Some value)

-- so it is of each ask on the list, with what is known of it
abbrev pub AreRight : List (List (Option Value)) → ℕ → Answerer → Type 0
AreRight queues feed answerer = (ask : Ask) (value : Value) → IsIn ask answerer.answers.asks → known answerer.answers ask ≡ Some value → IsRight queues feed ask value
