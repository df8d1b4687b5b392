-- What keeps an answer as it is.
use Rattle.std.specs.Prelude.{◌≡◌, ℕ, List, ◌++◌, Some, map}
use Rattle.join_base.specs.declared.message.Value.{Value}
use Rattle.fair_semantics.specs.declared.run.Entry.{Entry}
use Rattle.fair_semantics.specs.Linked.{unstamped_entry}
use Rattle.feed_answers.specs.Answers.{reply_at}

-- an answer stays as more arrives
abbrev pub AnswersStay : Type 0
AnswersStay = (entries more : List Entry) (feed place : ℕ) (value : Value) → reply_at entries feed place ≡ Some value → reply_at (entries ++ more) feed place ≡ Some value

-- the stamps of the arrivals are no matter to it
abbrev pub StampsAreNoMatter : Type 0
StampsAreNoMatter = (entries : List Entry) (feed place : ℕ) → reply_at (map unstamped_entry entries) feed place ≡ reply_at entries feed place
