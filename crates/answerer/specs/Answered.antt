-- What answering did, and which replies were tried.
use Rattle.std.specs.Prelude.{◌≡◌, ◌≢◌, ◌⊎◌, ◌≤◌, ◌+◌, ℕ, List, [], ◌∷◌, ◌++◌, Option, Some, IsSome, slice_get}
use Rattle.join_base.specs.declared.message.Value.{Value}
use Rattle.pattern_core.specs.Members.{IsIn}
use Rattle.fair_semantics.specs.declared.run.Effect.{Effect}
use Rattle.fair_semantics.specs.declared.run.Effect.TheVariants.{Reply}
use Rattle.fair_semantics.specs.declared.run.Entry.{Entry}
use Rattle.fair_semantics.specs.Linked.{firing_effects}
use Rattle.ask_board.specs.declared.view.Ask.{Ask}
use Rattle.ask_board.specs.Board.{HasAsk, IsViewOf, KnowsAnother, StaysKnown}
use Rattle.ask_board.specs.declared.view.AskView.{AskView}
use Rattle.ask_board.specs.View.{known_of}
use Rattle.answerer.specs.declared.answering.Answers.{Answers}
use Rattle.answerer.specs.Asks.{ask_at}

-- what is known of an ask
abbrev pub known : Answers → Ask → Option Value
known answers ask = known_of answers.view ask

abbrev pub IsOfBoard : Answers → Type 0
IsOfBoard answers = IsViewOf answers.board.now answers.view

-- a value is known of each ask on the list
abbrev pub AreKnown : Answers → Type 0
AreKnown answers = (ask : Ask) → IsIn ask answers.asks → IsSome (known answers ask)

-- what was known stays known, and what was listed stays on the list
pub record GoesOn (old now : Answers) : Type 0 where
  pub board : now.board.now ≡ old.board.now
  pub stays : (ask : Ask) → StaysKnown (known old ask) (known now ask)
  pub kept : (ask : Ask) → IsIn ask old.asks → IsIn ask now.asks

-- the ask is on the list, or has another value
abbrev pub IsTried : Answers → Ask → Value → Type 0
IsTried answers ask value = IsIn ask answers.asks ⊎ KnowsAnother (known answers ask) value

-- each of the effects that replies to an arrival whose ask the board has was tried
abbrev pub AreTried : List (Option Ask) → List Effect → Answers → Type 0
AreTried asks effects answers = (number : ℕ) (value : Value) (ask : Ask) → IsIn (Reply number value) effects → ask_at asks number ≡ Some ask → HasAsk answers.board.now ask → IsTried answers ask value

-- of each entry, so was each reply to an arrival up to it
abbrev pub AreTriedBack : List (Option Ask) → List Entry → Answers → Type 0
AreTriedBack asks entries answers = (place : ℕ) (entry : Entry) (number : ℕ) (value : Value) (ask : Ask) → slice_get entries place ≡ Some entry → IsIn (Reply number value) (firing_effects entry.firing) → number ≤ place + 1
    → ask_at asks number ≡ Some ask → HasAsk answers.board.now ask → IsTried answers ask value

-- one ask was answered with a value, and is listed only where it has this value
pub record AnswersOne (ask : Ask) (value : Value) (old now : Answers) : Type 0 where
  pub board : now.board.now ≡ old.board.now
  pub of_board : IsOfBoard now
  pub stays : StaysKnown (known old ask) (known now ask)
  pub others : (another : Ask) → another ≢ ask → known now another ≡ known old another
  pub listed : (now.asks ≡ old.asks) ⊎ ((now.asks ≡ old.asks ++ ask ∷ []) × (known now ask ≡ Some value))

-- one of the effects replies this to the arrival of the ask
pub record IsAnswer (asks : List (Option Ask)) (effects : List Effect) (answers : Answers) (ask : Ask) : Type 0 where
  pub number : ℕ
  pub value : Value
  pub here : ask_at asks number ≡ Some ask
  pub replied : IsIn (Reply number value) effects
  pub is_known : known answers ask ≡ Some value

-- what effects reply to arrivals with these asks was answered: what was known stays, and what was not listed before is
-- answered by one of the effects
pub record Answered (asks : List (Option Ask)) (effects : List Effect) (old now : Answers) : Type 0 where
  pub board : now.board.now ≡ old.board.now
  pub of_board : IsOfBoard now
  pub stays : (ask : Ask) → StaysKnown (known old ask) (known now ask)
  pub others : (ask : Ask) → ((number : ℕ) → ask_at asks number ≢ Some ask) → known now ask ≡ known old ask
  pub kept : (ask : Ask) → IsIn ask old.asks → IsIn ask now.asks
  pub listed : (ask : Ask) → IsIn ask now.asks → IsIn ask old.asks ⊎ IsAnswer asks effects now ask

-- the values of asks were learnt from another view, and asks among these were listed
pub record Joins (view : AskView) (asks : List Ask) (old now : Answers) : Type 0 where
  pub board : now.board.now ≡ old.board.now
  pub of_board : IsOfBoard now
  pub stays : (ask : Ask) → StaysKnown (known old ask) (known now ask)
  pub kept : (ask : Ask) → IsIn ask old.asks → IsIn ask now.asks
  pub listed : (ask : Ask) → IsIn ask now.asks → IsIn ask old.asks ⊎ (IsIn ask asks × (known now ask ≡ known_of view ask))

-- the same asks are listed, and the same is known of each ask
pub record KnowsTheSame (old now : Answers) : Type 0 where
  pub board : now.board.now ≡ old.board.now
  pub of_board : IsOfBoard now
  pub asks : now.asks ≡ old.asks
  pub known_same : (ask : Ask) → known now ask ≡ known old ask
