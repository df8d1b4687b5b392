-- What an answerer knows of a run stands in the queues of the run too.
use Rattle.std.proofs.Common.{◌≡◌, ◌∙◌, ◌-◌, ◌<◌, ℕ, zero, suc, List, [], ◌∷◌, Option, Some, None, map, get_or, IsSome, length, slice_get, slice_set, refl, sym, ap, subst, arith}
use Rattle.std.specs.Option.{option_and_then, option_map}
use Rattle.std.proofs.lemmas.Option.{slice_get-map}
use Rattle.join_base.specs.declared.message.Value.{Value}
use Rattle.join_base.specs.declared.message.Source.TheVariants.{Feed}
use Rattle.pattern_core.specs.Members.{IsIn}
use Rattle.fair_semantics.specs.declared.run.ActorRun.{ActorRun}
use Rattle.fair_semantics.specs.declared.run.Run.{Run}
use Rattle.feed_answers.specs.Answers.{answer_of, arrivals_from, from_one, reply_at, reply_in}
use Rattle.feed_answers.specs.Queues.{answers_in}
use Rattle.ask_board.specs.declared.view.Ask.{Ask}
use Rattle.answerer.specs.declared.answering.Answers.{Answers}
use Rattle.answerer.specs.declared.reading.Answerer.{Answerer}
use Rattle.answerer.specs.Answered.{AreKnown, IsOfBoard, KnowsTheSame, known}
use Rattle.answer_law.proofs.TryLemmas.{then_some}
use Rattle.ask_run.specs.Asking.{KnowsAnswers}
use Rattle.ask_run.specs.Telling.{AreRight, IsRight}

mapped_one : {A B : Type 0} (f : A → B) (xs : List A) (place : ℕ) (x : A) → from_one xs place ≡ Some x → from_one (map f xs) place ≡ Some (f x)
mapped_one f xs zero x e = absurd cc
mapped_one f [] (suc k) x e = absurd cc
mapped_one f (y ∷ xs) (suc zero) x e = let same : y ≡ x = cc in ap (λ (z : _). Some (f z)) same
mapped_one f (y ∷ xs) (suc (suc k)) x e = mapped_one f xs (suc k) x e

queue_of : (runs : List ActorRun) (feed actor : ℕ) (queue : List (Option Value)) → slice_get (map (answers_in feed) runs) actor ≡ Some queue → (own : ActorRun) × (slice_get runs actor ≡ Some own) × (answers_in feed own ≡ queue)
queue_of [] feed actor queue e = absurd cc
queue_of (own ∷ runs) feed zero queue e = (own, refl, cc)
queue_of (own ∷ runs) feed (suc actor) queue e = queue_of runs feed actor queue e

-- an answer in the run stands in the queue of its actor
in_queue : (runs : List ActorRun) (feed actor place : ℕ) (own : ActorRun) (value : Value) → slice_get runs actor ≡ Some own → answer_of runs feed actor place ≡ Some value → from_one (answers_in feed own) place ≡ Some (Some value)
in_queue runs feed actor place own value there answer =
    let reply : reply_at own.entries feed place ≡ Some value = sym (ap (option_and_then (λ (r : ActorRun). reply_at r.entries feed place)) there) ∙ answer in
    let (number, at, is) = then_some (reply_in own.entries) (from_one (arrivals_from (Feed feed) own.entries) place) value reply in
    mapped_one (reply_in own.entries) (arrivals_from (Feed feed) own.entries) place number at ∙ ap (λ (o : Option Value). Some o) is

pub answers_right : (run : Run) (feed : ℕ) (queues : List (List (Option Value))) (answerer : Answerer) → queues ≡ map (answers_in feed) run.actors → KnowsAnswers run answerer → AreRight queues feed answerer
answers_right run feed queues answerer is knows ask value listed here own queue there =
    let (run_of, at, same) = queue_of run.actors feed ask.actor queue (ap (λ (qs : List (List (Option Value))). slice_get qs ask.actor) (sym is) ∙ there) in
    let (told, known_is, answer) = knows ask run_of at listed in
    let one : told ≡ value = let both : Some told ≡ Some value = sym known_is ∙ here in cc in
    let found : answer_of run.actors feed ask.actor ask.place ≡ Some value = ap (λ (f : ℕ). answer_of run.actors f ask.actor ask.place) (sym own) ∙ answer ∙ ap (λ (v : Value). Some v) one in
    ap (λ (q : List (Option Value)). from_one q ask.place) (sym same) ∙ in_queue run.actors feed ask.actor ask.place run_of value at found

-- what is right of an ask tells that the queue has it at its place
pub right_at : (queues : List (List (Option Value))) (feed : ℕ) (ask : Ask) (value : Value) (queue : List (Option Value)) → IsRight queues feed ask value → ask.feed ≡ feed → slice_get queues ask.actor ≡ Some queue → slice_get queue (ask.place - 1) ≡ Some (Some value)
right_at queues feed ask value queue right own there = by ask.place (right own queue there)
  where
    by : (place : ℕ) → from_one queue place ≡ Some (Some value) → slice_get queue (place - 1) ≡ Some (Some value)
    by zero e = absurd cc
    by (suc place) e =
        let before : suc place - 1 ≡ place = omega arith in
        ap (slice_get queue) before ∙ e

-- what holds of an answerer holds of one that knows the same
pub told_itself : (a : Answers) → IsOfBoard a → KnowsTheSame a a
told_itself a of = record { board = refl; of_board = of; asks = refl; known_same = λ ask. refl }

pub still_known : (a b : Answers) → KnowsTheSame a b → AreKnown a → AreKnown b
still_known a b same before ask h = subst (λ (o : Option Value). IsSome o) (sym (same.known_same ask)) (before ask (subst (IsIn ask) same.asks h))

pub still_right : (queues : List (List (Option Value))) (feed : ℕ) (a b : Answerer) → KnowsTheSame a.answers b.answers → AreRight queues feed a → AreRight queues feed b
still_right queues feed a b same right ask value listed here = right ask value (subst (IsIn ask) same.asks listed) (sym (same.known_same ask) ∙ here)

pub still_knows : (run : Run) (a b : Answerer) → KnowsTheSame a.answers b.answers → KnowsAnswers run a → KnowsAnswers run b
still_knows run a b same knows ask own there listed =
    let (value, is, answer) = knows ask own there (subst (IsIn ask) same.asks listed) in
    (value, same.known_same ask ∙ is, answer)

pub same_on : (a b c : Answers) → KnowsTheSame a b → KnowsTheSame b c → KnowsTheSame a c
same_on a b c first later = record {
  board = later.board ∙ first.board;
  of_board = later.of_board;
  asks = later.asks ∙ first.asks;
  known_same = λ ask. later.known_same ask ∙ first.known_same ask;
}
