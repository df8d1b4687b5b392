-- The ask of each arrival of an actor.
use Rattle.std.specs.Prelude.{◌≡◌, ◌≤◌, ◌+◌, ◌==◌, ℕ, List, [], ◌∷◌, ◌++◌, Option, None, Some, length, take, if◌then◌else◌}
use Rattle.std.specs.Option.{option_flatten}
use Rattle.join_base.specs.declared.message.Source.{Source}
use Rattle.join_base.specs.declared.message.Source.TheVariants.{Feed, Actor}
use Rattle.fair_semantics.specs.declared.run.Entry.{Entry}
use Rattle.feed_answers.specs.Answers.{arrivals_from}
use Rattle.ask_board.specs.declared.view.Ask.{Ask}
use Rattle.ask_board.specs.Rows.{from_one}

-- the ask of the last of some arrivals, by its source
abbrev pub last_ask : ℕ → Source → List Entry → Option Ask
last_ask actor (Feed feed) entries = Some record { feed = feed; actor = actor; place = length (arrivals_from (Feed feed) entries) }
last_ask actor (Actor from) entries = None

-- the asks of arrivals behind others
abbrev pub asks_behind : ℕ → List Entry → List Entry → List (Option Ask)
asks_behind actor before [] = []
asks_behind actor before (entry ∷ more) = last_ask actor entry.source (before ++ entry ∷ []) ∷ asks_behind actor (before ++ entry ∷ []) more

-- for each arrival of an actor the ask that it became one of, where it is from a feed
abbrev pub asks_of : ℕ → List Entry → List (Option Ask)
asks_of actor entries = asks_behind actor [] entries

-- the ask of the arrival of a number
abbrev pub ask_at : List (Option Ask) → ℕ → Option Ask
ask_at asks number = option_flatten (from_one asks number)

-- the asks of the first arrivals of an actor
pub record AreNoted (actor : ℕ) (entries : List Entry) (asks : List (Option Ask)) : Type 0 where
  pub few : length asks ≤ length entries
  pub same : asks ≡ asks_of actor (take (length asks) entries)

-- ---- what private functions give

-- the place of the last ask of a feed, or this one
abbrev pub last_from : ℕ → ℕ → List (Option Ask) → ℕ
last_from feed place [] = place
last_from feed place (None ∷ asks) = last_from feed place asks
last_from feed place (Some ask ∷ asks) = last_from feed (if ask.feed == feed then ask.place else place) asks

abbrev pub last_place : ℕ → List (Option Ask) → ℕ
last_place feed asks = last_from feed 0 asks

abbrev pub next_ask : ℕ → Source → List (Option Ask) → Option Ask
next_ask actor (Feed feed) asks = Some record { feed = feed; actor = actor; place = last_place feed asks + 1 }
next_ask actor (Actor from) asks = None
