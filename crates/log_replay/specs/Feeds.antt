-- The feeds that a run shows: what its actors took from each, and what was late.
use Rattle.std.specs.Prelude.{ℕ, ◌+◌, List, [], ◌∷◌, ◌++◌, map, replicate}
use Rattle.join_base.specs.declared.message.Message.{Message}
use Rattle.join_base.specs.declared.message.Source.TheVariants.{Feed}
use Rattle.fair_semantics.specs.declared.run.Entry.{Entry}
use Rattle.fair_semantics.specs.declared.run.ActorRun.{ActorRun}
use Rattle.fair_semantics.specs.declared.run.Run.{Run}
use Rattle.fair_semantics.specs.Linked.{count_of, numbers_from, taken_from}

-- as many copies of the message of the first entry
abbrev pub first_copied : ℕ → List Entry → List Message
first_copied n [] = []
first_copied n (entry ∷ more) = replicate n entry.message

-- what an actor took from a feed, and for each late message of it a copy of its first entry's message
abbrev pub messages_shown : ℕ → ActorRun → List Message
messages_shown feed own = taken_from (Feed feed) own.entries ++ first_copied (count_of (Feed feed) own.late) own.entries

-- a feed, actor by actor, from this actor on
abbrev pub feed_shown : ℕ → ℕ → List ActorRun → List (ℕ × Message)
feed_shown feed actor [] = []
feed_shown feed actor (own ∷ runs) = map (λ m. (actor, m)) (messages_shown feed own) ++ feed_shown feed (actor + 1) runs

abbrev pub feeds_shown : Run → List (List (ℕ × Message))
feeds_shown run = map (λ feed. feed_shown feed 0 run.actors) (numbers_from 1 run.feeds)
