-- What the joined answerer knows of a run.
use Rattle.std.specs.Prelude.{◌≡◌, Some, slice_get}
use Rattle.join_base.specs.declared.message.Value.{Value}
use Rattle.pattern_core.specs.Members.{IsIn}
use Rattle.fair_semantics.specs.declared.run.ActorRun.{ActorRun}
use Rattle.fair_semantics.specs.declared.run.Run.{Run}
use Rattle.feed_answers.specs.Answers.{answer_of}
use Rattle.ask_board.specs.declared.view.Ask.{Ask}
use Rattle.ask_board.specs.Board.{HasAsk}
use Rattle.answerer.specs.declared.reading.Answerer.{Answerer}
use Rattle.answerer.specs.Answered.{IsTried, known}

-- of each ask on its list that is of an actor of the run it knows the answer of that ask in the run
abbrev pub KnowsAnswers : Run → Answerer → Type 0
KnowsAnswers run answerer = (ask : Ask) (own : ActorRun) → slice_get run.actors ask.actor ≡ Some own → IsIn ask answerer.answers.asks → (value : Value) × (known answerer.answers ask ≡ Some value) × (answer_of run.actors ask.feed ask.actor ask.place ≡ Some value)

-- each ask of the board that has an answer in the run is on its list, or has another value on the board
abbrev pub AnswersAll : Run → Answerer → Type 0
AnswersAll run answerer = (ask : Ask) (value : Value) → HasAsk answerer.answers.board.now ask → answer_of run.actors ask.feed ask.actor ask.place ≡ Some value → IsTried answerer.answers ask value
