-- What private functions make: the reply to each arrival, and for each actor the answers of a feed that come next.
use Rattle.std.specs.Prelude.{◌≡◌, ℕ, ◌+◌, List, [], ◌∷◌, ◌++◌, Option, None, Some, drop, length, map, slice_get, slice_set}
use Rattle.std.specs.Option.{option_copied, option_and_then}
use Rattle.std.specs.Borrow.{Bor}
use Rattle.join_base.specs.declared.message.Value.{Value}
use Rattle.join_base.specs.declared.message.Source.TheVariants.{Feed}
use Rattle.fair_semantics.specs.declared.run.Effect.{Effect}
use Rattle.fair_semantics.specs.declared.run.Entry.{Entry}
use Rattle.fair_semantics.specs.declared.run.ActorRun.{ActorRun}
use Rattle.fair_semantics.specs.Linked.{numbers_from}
use Rattle.feed_answers.specs.Answers.{arrivals_from, reply_in, reply_to}
use Rattle.feed_answers.specs.AnswersText.{answer_line}

-- the arrivals have the numbers from 1 on, as in each right run
abbrev pub AreNumbered : List Entry → Type 0
AreNumbered entries = map (λ (entry : Entry). entry.number) entries ≡ numbers_from 1 (length entries)

abbrev pub HasNumbers : ActorRun → Type 0
HasNumbers own = AreNumbered own.entries

abbrev pub seen : List (Option (Bor Value)) → List (Option Value)
seen values = map option_copied values

-- the first of two
abbrev pub or_else : Option Value → Option Value → Option Value
or_else None second = second
or_else (Some value) second = Some value

-- with what an effect replies to the arrivals from this number on, where there was no reply yet
abbrev pub with_effect : ℕ → List (Option Value) → Effect → List (Option Value)
with_effect number [] effect = []
with_effect number (value ∷ values) effect = or_else value (reply_to number effect) ∷ with_effect (number + 1) values effect

abbrev pub with_effects : List (Option Value) → List Effect → List (Option Value)
with_effects values [] = values
with_effects values (effect ∷ effects) = with_effects (with_effect 1 values effect) effects

-- the reply to each arrival
abbrev pub replies_of : List Entry → List (Option Value)
replies_of entries = map (reply_in entries) (numbers_from 1 (length entries))

-- the answers of a feed's posts to an actor, in order
abbrev pub answers_in : ℕ → ActorRun → List (Option Value)
answers_in feed own = map (reply_in own.entries) (arrivals_from (Feed feed) own.entries)

-- the first answer of a queue, if it has one
abbrev pub front : List (Option Value) → Option Value
front [] = None
front (value ∷ values) = value

-- the next answer for an actor
abbrev pub front_at : List (List (Option Value)) → ℕ → Option Value
front_at queues actor = option_and_then front (slice_get queues actor)

abbrev pub taken_from : List (List (Option Value)) → ℕ → Option (List (Option Value)) → List (List (Option Value))
taken_from queues actor None = queues
taken_from queues actor (Some queue) = slice_set queues actor (drop 1 queue)

-- the queues without it
abbrev pub taken_at : List (List (Option Value)) → ℕ → List (List (Option Value))
taken_at queues actor = taken_from queues actor (slice_get queues actor)

-- the lines of rows, the first of this number, where the queues have the answers that come next
abbrev pub lines_by : ℕ → List (List (Option Value)) → ℕ → List ℕ → List ℕ
lines_by feed queues row [] = []
lines_by feed queues row (actor ∷ targets) = answer_line feed row (front_at queues actor) ++ lines_by feed (taken_at queues actor) (row + 1) targets
