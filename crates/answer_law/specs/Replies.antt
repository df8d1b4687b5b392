-- The reply to a post of a feed over the history of an actor, and the answers of a run.
use Rattle.std.specs.Prelude.{◌≡◌, ℕ, List, Option, Some, slice_get}
use mathlib.Core.List.{IsPrefix}
use Rattle.join_base.specs.declared.message.Message.{Message}
use Rattle.join_base.specs.declared.message.Value.{Value}
use Rattle.pattern_core.specs.Members.{IsIn}
use Rattle.script_types.specs.declared.plan.Plan.{Plan}
use Rattle.script_types.specs.Typed.{IsTyped}
use Rattle.fair_semantics.specs.declared.run.ActorRun.{ActorRun}
use Rattle.fair_semantics.specs.declared.run.Limits.{Limits}
use Rattle.fair_semantics.specs.declared.run.Run.{Run}
use Rattle.fair_semantics.specs.Step.{Setting}
use Rattle.fair_semantics.specs.Fair.{Sent, setting_of}
use Rattle.fair_semantics.specs.Linked.{IsLinked}
use Rattle.history_law.specs.History.{entries_by, history_in}
use Rattle.feed_answers.specs.Answers.{answer_of, reply_at}
use Rattle.ask_board.specs.declared.view.Ask.{Ask}
use Rattle.ask_board.specs.Board.{HasAsk}
use Rattle.answerer.specs.declared.reading.Answerer.{Answerer}
use Rattle.answerer.specs.Answered.{IsTried, known}
use Rattle.answerer.specs.Fit.{AreAllTried, Fits, IsReply}

-- the reply that fair steps give over a history to the post at a place, counted from 1, among those of a feed
abbrev pub reply_by : Setting → List Sent → ℕ → ℕ → Option Value
reply_by setting history feed place = reply_at (entries_by setting history) feed place

-- ---- laws

-- a reply stays as the history goes on
abbrev pub RepliesStay : Type 0
RepliesStay = (setting : Setting) (before after : List Sent) (feed place : ℕ) (value : Value) → IsPrefix before after → reply_by setting before feed place ≡ Some value → reply_by setting after feed place ≡ Some value

-- in a linked run the answer of an ask is the reply over the history of its actor
abbrev pub RunsAnswer : Type 0
RunsAnswer = (plan : Plan) (limits : Limits) (feeds : List (List (ℕ × Message))) (run : Run) → IsLinked plan limits feeds run
    → (actor : ℕ) (own : ActorRun) → slice_get run.actors actor ≡ Some own → (feed place : ℕ) → answer_of run.actors feed actor place ≡ reply_by (setting_of plan actor limits) (history_in feeds run actor own) feed place

-- what an actor of a well typed plan replies to the arrival of an ask is the one reply to it
abbrev pub RepliesAreOne : Type 0
RepliesAreOne = (plan : Plan) (limits : Limits) (actor : ℕ) (history : List Sent) → IsTyped plan → (ask : Ask) (value : Value) → IsReply (entries_by (setting_of plan actor limits) history) ask value → reply_by (setting_of plan actor limits) history ask.feed ask.place ≡ Some value

-- what an answerer knows of an ask on its list is the answer of the ask in a linked run of a well typed plan, where it
-- fits the entries that the history of the ask's actor makes
abbrev pub AnswersAgree : Type 0
AnswersAgree = (plan : Plan) (limits : Limits) (feeds : List (List (ℕ × Message))) (run : Run) → IsTyped plan → IsLinked plan limits feeds run → (answerer : Answerer) (ask : Ask) (own : ActorRun) → slice_get run.actors ask.actor ≡ Some own
    → Fits answerer ask.actor (entries_by (setting_of plan ask.actor limits) (history_in feeds run ask.actor own)) → IsIn ask answerer.answers.asks
    → (value : Value) × (known answerer.answers ask ≡ Some value) × (answer_of run.actors ask.feed ask.actor ask.place ≡ Some value)

-- so it is where it fits the entries that the run has of this actor
abbrev pub ReadersAgree : Type 0
ReadersAgree = (plan : Plan) (limits : Limits) (feeds : List (List (ℕ × Message))) (run : Run) → IsTyped plan → IsLinked plan limits feeds run → (answerer : Answerer) (ask : Ask) (own : ActorRun) → slice_get run.actors ask.actor ≡ Some own
    → Fits answerer ask.actor own.entries → IsIn ask answerer.answers.asks
    → (value : Value) × (known answerer.answers ask ≡ Some value) × (answer_of run.actors ask.feed ask.actor ask.place ≡ Some value)

-- where each reply of an actor of a linked run was tried, the answer of each of its asks that the board has was tried
abbrev pub ReadersTry : Type 0
ReadersTry = (plan : Plan) (limits : Limits) (feeds : List (List (ℕ × Message))) (run : Run) → IsTyped plan → IsLinked plan limits feeds run → (answerer : Answerer) (ask : Ask) (own : ActorRun) (value : Value) → slice_get run.actors ask.actor ≡ Some own
    → AreAllTried answerer ask.actor own.entries → HasAsk answerer.answers.board.now ask → answer_of run.actors ask.feed ask.actor ask.place ≡ Some value → IsTried answerer.answers ask value
