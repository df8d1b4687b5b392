-- When an answerer fits the entries of an actor.
use Rattle.std.specs.Prelude.{◌≡◌, ◌≢◌, ◌≤◌, ◌↔◌, ℕ, List, [], ◌++◌, Option, None, Some, length, slice_get, take}
use Rattle.join_base.specs.declared.message.Value.{Value}
use Rattle.pattern_core.specs.Members.{IsIn}
use Rattle.fair_semantics.specs.declared.run.Effect.TheVariants.{Reply}
use Rattle.fair_semantics.specs.declared.run.Entry.{Entry}
use Rattle.feed_answers.specs.Answers.{effects_in}
use Rattle.ask_board.specs.declared.view.Ask.{Ask}
use Rattle.answerer.specs.declared.answering.Answers.{Answers}
use Rattle.answerer.specs.declared.noting.Progress.{Progress}
use Rattle.answerer.specs.declared.reading.Answerer.{Answerer}
use Rattle.answerer.specs.Answered.{AreKnown, AreTriedBack, IsOfBoard, known}
use Rattle.answerer.specs.Asks.{AreNoted, ask_at, asks_of}

-- one of the entries replies this to the arrival of the ask
abbrev pub IsReply : List Entry → Ask → Value → Type 0
IsReply entries ask value = (number : ℕ) × (ask_at (asks_of ask.actor entries) number ≡ Some ask) × IsIn (Reply number value) (effects_in entries)

-- of each ask of an actor on the list a value is known that the entries reply to it, and what was read of the actor
-- begins them
pub record FitsIn (actor : ℕ) (entries : List Entry) (progress : Progress) (answers : Answers) : Type 0 where
  pub of_board : IsOfBoard answers
  pub noted : AreNoted actor entries progress.asks
  pub done : progress.done ≤ length progress.asks
  pub answered : (ask : Ask) → IsIn ask answers.asks → ask.actor ≡ actor → (value : Value) × (known answers ask ≡ Some value) × IsReply entries ask value
  pub tried : AreTriedBack (asks_of actor entries) (take progress.done entries) answers

-- an actor of which nothing was read
abbrev pub not_read : Progress
not_read = record { asks = []; done = 0 }

abbrev pub or_not_read : Option Progress → Progress
or_not_read None = not_read
or_not_read (Some progress) = progress

-- what was read of an actor
abbrev pub progress_of : Answerer → ℕ → Progress
progress_of answerer actor = or_not_read (slice_get answerer.progress actor)

-- so it is of the actor, and a value is known of each ask on the list, of whichever actor
pub record Fits (answerer : Answerer) (actor : ℕ) (entries : List Entry) : Type 0 where
  pub rows : length answerer.progress ≡ 32
  pub known : AreKnown answerer.answers
  pub fits : FitsIn actor entries (progress_of answerer actor) answerer.answers

-- it fits every actor that has no entries
abbrev pub FitsNothing : Answerer → Type 0
FitsNothing answerer = (actor : ℕ) → Fits answerer actor []

-- what fits the entries of an actor fits those that go on from them
abbrev pub FitsGrow : Type 0
FitsGrow = (answerer : Answerer) (actor : ℕ) (entries more : List Entry) → Fits answerer actor entries → Fits answerer actor (entries ++ more)

-- it fits all actors but this one as before
abbrev pub KeepsOthers : Answerer → Answerer → ℕ → Type 0
KeepsOthers old now actor = (other : ℕ) → other ≢ actor → (entries : List Entry) → Fits old other entries ↔ Fits now other entries

-- each reply to an arrival up to its own was tried
abbrev pub AreAllTried : Answerer → ℕ → List Entry → Type 0
AreAllTried answerer actor entries = AreTriedBack (asks_of actor entries) entries answerer.answers

-- of the asks of an actor the same is known, and the same are listed
pub record IsAlike (actor : ℕ) (old now : Answers) : Type 0 where
  pub board : now.board.now ≡ old.board.now
  pub of_board : IsOfBoard now
  pub known_same : (ask : Ask) → ask.actor ≡ actor → known now ask ≡ known old ask
  pub kept : (ask : Ask) → ask.actor ≡ actor → IsIn ask old.asks → IsIn ask now.asks
  pub back : (ask : Ask) → ask.actor ≡ actor → IsIn ask now.asks → IsIn ask old.asks
