-- What the joined answerer knows of a run.
use Rattle.std.proofs.Common.{◌≡◌, ℕ, ◌≤◌, List, [], ◌∷◌, Some, length, slice_get, refl, sym, subst, arith}
use Rattle.join_base.specs.declared.message.Message.{Message}
use Rattle.script_types.specs.declared.plan.Plan.{Plan}
use Rattle.script_types.specs.Typed.{IsTyped}
use Rattle.fair_semantics.specs.declared.run.ActorRun.{ActorRun}
use Rattle.fair_semantics.specs.declared.run.Entry.{Entry}
use Rattle.fair_semantics.specs.declared.run.Limits.{Limits}
use Rattle.fair_semantics.specs.declared.run.Run.{Run}
use Rattle.fair_semantics.specs.Linked.{IsLinked}
use Rattle.pool_run.specs.Running.{FitsRun}
use Rattle.answerer.specs.declared.reading.Answerer.{Answerer}
use Rattle.answerer.specs.Beside.{FitsHistory}
use Rattle.answerer.specs.Fit.{Fits}
use Rattle.feed_answers.specs.Answers.{reply_at}
use Rattle.fair_semantics.specs.Fair.{setting_of}
use Rattle.actor_cells.specs.History.{history_shown}
use Rattle.answerer.proofs.BesideLemmas.{fits_now}
use Rattle.answerer.proofs.AskLemmas.{get_within}
use Rattle.answer_law.proofs.ReplyLemmas.{readers_agree}
use Rattle.answer_law.proofs.TryLemmas.{readers_try, then_some}
use Rattle.ask_run.specs.Asking.{AnswersAll, KnowsAnswers}
use Rattle.ask_run.specs.Reading.{FitsEntries, TriesFirst}
use Rattle.ask_run.proofs.ReadLemmas.{entries_shown}

some_first : {X : Type 0} (xs : List X) → 1 ≤ length xs → (x : X) × (slice_get xs 0 ≡ Some x)
some_first [] l = absurd (omega arith)
some_first (x ∷ xs) l = (x, refl)

-- a run of a well typed plan has a first actor
pub first_actor : (plan : Plan) (limits : Limits) (feeds : List (List (ℕ × Message))) (run : Run) → IsTyped plan → IsLinked plan limits feeds run → (own : ActorRun) × (slice_get run.actors 0 ≡ Some own)
first_actor plan limits feeds run typed linked =
    let count = linked.fits_plan.actors in
    let some = typed.some_actors in
    some_first run.actors (omega arith)

-- it knows the answers of its list, where it fits the entries of each actor
pub knows_answers : (plan : Plan) (limits : Limits) (feeds : List (List (ℕ × Message))) (run : Run) (answerer : Answerer) → IsTyped plan → IsLinked plan limits feeds run → FitsEntries run answerer → KnowsAnswers run answerer
knows_answers plan limits feeds run answerer typed linked fit ask own there listed =
    readers_agree plan limits feeds run typed linked answerer ask own there (fit ask.actor own there) listed

-- and it has all of them, where it has tried what each actor replied
pub answers_all : (plan : Plan) (limits : Limits) (feeds : List (List (ℕ × Message))) (run : Run) (answerer : Answerer) → IsTyped plan → IsLinked plan limits feeds run → TriesFirst (length run.actors) run answerer → AnswersAll run answerer
answers_all plan limits feeds run answerer typed linked tried ask value has answer =
    let (own, there, _) = then_some (λ (r : ActorRun). reply_at r.entries ask.feed ask.place) (slice_get run.actors ask.actor) value answer in
    readers_try plan limits feeds run typed linked answerer ask own value there (tried ask.actor own (get_within run.actors ask.actor own there) there) has answer

-- what the joined one fits as arrivals go on, it fits in the run
pub fits_entries : (plan : Plan) (limits : Limits) (feeds : List (List (ℕ × Message))) (run : Run) (answerer : Answerer) → IsLinked plan limits feeds run → run.version ≡ 2 → FitsRun FitsHistory plan limits feeds run answerer → FitsEntries run answerer
fits_entries plan limits feeds run answerer linked version fit actor own there =
    subst (λ (es : List Entry). Fits answerer actor es) (sym (entries_shown plan limits feeds run linked version actor own there))
    (fits_now answerer actor (setting_of plan actor limits) (history_shown feeds run actor own) (fit actor own there))
