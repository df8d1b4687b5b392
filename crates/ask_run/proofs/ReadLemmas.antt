-- Reading the entries of a run that has ended.
use mathlib.Core.Logic.{dite}
use native.Mathlib.Decide.{ℕ_discrete}
use Rattle.std.proofs.Common.{◌≡◌, ◌≢◌, ◌∙◌, ◌+◌, ◌<◌, ◌≤◌, ◌^◌, ℕ, zero, suc, List, [], ◌++◌, Bool, false, Some, get_or, length, slice_get, refl, sym, ap, subst, arith}
use Rattle.std.specs.Prelude.{◌==◌, if◌then◌else◌}
use Rattle.std.specs.List.{AllByRecursion}
use Rattle.std.proofs.lemmas.Bool.Decides.{nat_tests}
use Rattle.std.proofs.lemmas.Option.{slice_get-get_or}
use Rattle.guard_eval.proofs.ReadyLemmas.{each_at}
use Rattle.join_base.proofs.EachLemmas.{each_from_get}
use Rattle.join_base.specs.declared.message.Message.{Message}
use Rattle.join_base.specs.declared.message.Source.{Source}
use Rattle.join_base.specs.declared.message.Stamped.{Stamped}
use Rattle.script_types.specs.declared.plan.Plan.{Plan}
use Rattle.fair_semantics.specs.declared.run.ActorRun.{ActorRun}
use Rattle.fair_semantics.specs.declared.run.Entry.{Entry}
use Rattle.fair_semantics.specs.declared.run.Limits.{Limits}
use Rattle.fair_semantics.specs.declared.run.Run.{Run}
use Rattle.fair_semantics.specs.Step.{Setting, State, opening}
use Rattle.fair_semantics.specs.Fair.{Sent, after_all, fair, run_of, setting_of}
use Rattle.fair_semantics.specs.Fits.{ActorRunFits, EntryFits}
use Rattle.fair_semantics.specs.Linked.{IsLinked, given, posts_of, rests_of, unstamped}
use Rattle.history_law.specs.History.{entries_by, history_in}
use Rattle.history_law.proofs.HistoryLemmas.{length_arrived, rests_no_matter}
use Rattle.feed_answers.specs.Queues.{AreNumbered, HasNumbers}
use Rattle.feed_answers.proofs.NumberedLemmas.{numbered_run}
use Rattle.answerer.specs.declared.reading.Answerer.{Answerer}
use Rattle.answerer.specs.Answered.{GoesOn}
use Rattle.answerer.specs.Asks.{asks_of}
use Rattle.answerer.specs.Fit.{AreAllTried, Fits, KeepsOthers}
use Rattle.answerer.proofs.AnsweredLemmas.{back_goes_on}
use Rattle.answerer.proofs.BesideLemmas.{entry_there}
use Rattle.answer_law.proofs.OneLemmas.{numbered_at}
use Rattle.ask_run.specs.Reading.{FitsEntries, HasFewEntries, TriesFirst}

-- ---- one actor after the other

pub read_at : (run : Run) (runs : List ActorRun) (place : ℕ) (own : ActorRun) → runs ≡ run.actors → place < length runs → own ≡ get_or runs place own → slice_get run.actors place ≡ Some own
read_at run runs place own same l at =
    ap (λ (rs : List ActorRun). slice_get rs place) (sym same) ∙ slice_get-get_or runs place own l ∙ ap (λ (r : ActorRun). Some r) (sym at)

one_there : (runs : List ActorRun) (actor : ℕ) (own other : ActorRun) → slice_get runs actor ≡ Some own → slice_get runs actor ≡ Some other → own ≡ other
one_there runs actor own other a b = let both : Some own ≡ Some other = sym a ∙ b in cc

pub fits_step : (run : Run) (place : ℕ) (own : ActorRun) (a b : Answerer) → slice_get run.actors place ≡ Some own → KeepsOthers a b place → Fits b place own.entries → FitsEntries run a → FitsEntries run b
fits_step run place own a b there others now before actor other at =
    dite (ℕ_discrete actor place)
    (λ (same : actor ≡ place).
    let is : own ≡ other = one_there run.actors place own other there (ap (slice_get run.actors) (sym same) ∙ at) in
    subst (λ (k : ℕ). Fits b k other.entries) (sym same) (subst (λ (r : ActorRun). Fits b place r.entries) is now))
    (λ (differ : actor ≢ place). (others actor differ other.entries).0 (before actor other at))

pub tries_none : (run : Run) (answerer : Answerer) → TriesFirst 0 run answerer
tries_none run answerer actor own l there = absurd (omega (arith, l))

pub tries_step : (run : Run) (place : ℕ) (own : ActorRun) (a b : Answerer) → slice_get run.actors place ≡ Some own → GoesOn a.answers b.answers → AreAllTried b place own.entries → TriesFirst place run a → TriesFirst (place + 1) run b
tries_step run place own a b there on now before actor other l at =
    dite (ℕ_discrete actor place)
    (λ (same : actor ≡ place).
    let is : own ≡ other = one_there run.actors place own other there (ap (slice_get run.actors) (sym same) ∙ at) in
    subst (λ (k : ℕ). AreAllTried b k other.entries) (sym same) (subst (λ (r : ActorRun). AreAllTried b place r.entries) is now))
    (λ (differ : actor ≢ place).
    let less : actor < place = omega (arith, l, differ) in
    back_goes_on (asks_of actor other.entries) other.entries a.answers b.answers on (before actor other less at))

pub tries_all : (run : Run) (runs : List ActorRun) (place : ℕ) (answerer : Answerer) → runs ≡ run.actors → length runs ≤ place → TriesFirst place run answerer → TriesFirst (length run.actors) run answerer
tries_all run runs place answerer same past tried actor own l there =
    let less : actor < place = omega (arith, ap length same, past, l) in
    tried actor own less there

-- ---- the entries of a run

few_of : (plan : Plan) (version feeds : ℕ) (entries : List Entry) → AreNumbered entries → AllByRecursion (EntryFits plan version feeds) entries → length entries < 2 ^ 32
few_of plan version feeds entries numbered fit = by (length entries) refl
  where
    by : (n : ℕ) → length entries ≡ n → length entries < 2 ^ 32
    by zero e = omega (arith, e)
    by (suc k) e =
        let (x, there, _) = entry_there entries k (omega (arith, e)) in
        let small = (each_at (EntryFits plan version feeds) entries k x there fit).number in
        omega (arith, e, numbered_at entries k x numbered there, small)

-- the arrivals of each actor of a linked run are counted in 32 bits
pub few_entries : (plan : Plan) (limits : Limits) (feeds : List (List (ℕ × Message))) (run : Run) → IsLinked plan limits feeds run → AllByRecursion HasFewEntries run.actors
few_entries plan limits feeds run linked = each_from_get HasFewEntries run.actors (λ actor own there.
    let fit = each_at (ActorRunFits plan run.version run.feeds) run.actors actor own there linked.fits_plan.each in
    few_of plan run.version run.feeds own.entries (each_at HasNumbers run.actors actor own there (numbered_run plan limits feeds run linked)) fit.entries)

-- in version 2 they are those that the history of the actor makes
pub entries_shown : (plan : Plan) (limits : Limits) (feeds : List (List (ℕ × Message))) (run : Run) → IsLinked plan limits feeds run → run.version ≡ 2 → (actor : ℕ) (own : ActorRun) → slice_get run.actors actor ≡ Some own
    → own.entries ≡ entries_by (setting_of plan actor limits) (history_in feeds run actor own)
entries_shown plan limits feeds run linked version actor own there =
    let setting : Setting = setting_of plan actor limits in
    let posts : Source → List Stamped = λ source. posts_of feeds run.actors source actor in
    let history : List Sent = history_in feeds run actor own in
    let rests : List Sent = rests_of plan feeds run actor own.entries in
    let state : State = fair plan actor limits run.feeds (given plan feeds run actor own.entries) in
    let shown : ActorRun = run_of setting.rules state in
    let stamped : (run.version == 1) ≡ false = grind (arith, nat_tests) in
    let is : own ≡ shown = (linked.each actor own there).fair ∙ ap (λ (b : Bool). if b then unstamped shown else shown) stamped in
    let same : own.entries ≡ state.entries = ap (λ (r : ActorRun). r.entries) is in
    let count : length (after_all setting (opening run.feeds (length plan.actors)) (history ++ rests)).entries ≡ length history = sym (ap length same) ∙ sym (length_arrived posts [] own.entries) in
    same ∙ rests_no_matter setting run.feeds (length plan.actors) history rests count
