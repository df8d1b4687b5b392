-- In a right run the arrivals of each actor have the numbers from 1 on.
use Rattle.std.proofs.Common.{◌≡◌, ◌∙◌, ◌+◌, ℕ, List, [], ◌∷◌, ◌++◌, Bool, true, false, length, map, refl, sym, ap, arith}
use Rattle.std.specs.Prelude.{◌==◌, if◌then◌else◌}
use Rattle.std.specs.List.{AllByRecursion}
use Rattle.std.proofs.lemmas.List.{length-map, length_push, map-append}
use Rattle.join_base.specs.declared.message.Message.{Message}
use Rattle.join_base.proofs.EachLemmas.{each_from_get}
use Rattle.script_types.specs.declared.plan.Plan.{Plan}
use Rattle.fair_semantics.specs.declared.run.Limits.{Limits}
use Rattle.fair_semantics.specs.declared.run.Entry.{Entry}
use Rattle.fair_semantics.specs.declared.run.ActorRun.{ActorRun}
use Rattle.fair_semantics.specs.declared.run.Run.{Run}
use Rattle.pattern_core.specs.Choice.{choice}
use Rattle.fair_semantics.specs.Step.{Arrival, Setting, State, definitions_of, fair_step, is_refused, is_running, messages_with, live_with, running_step, step_by}
use Rattle.fair_semantics.specs.Fair.{Sent, after_all, fair_run}
use Rattle.fair_semantics.specs.Linked.{IsLinked, given, in_version, numbers_from, unstamped, unstamped_entry}
use Rattle.fair_semantics.proofs.FairLemmas.{numbers_from-more}
use Rattle.fair_semantics.proofs.TakenLemmas.{arrival_of, recorded_by}
use Rattle.feed_answers.specs.Queues.{AreNumbered, HasNumbers}

numbered_more : (entries : List Entry) (entry : Entry) → AreNumbered entries → entry.number ≡ length entries + 1 → AreNumbered (entries ++ entry ∷ [])
numbered_more entries entry h e =
    let next : entry.number ≡ 1 + length entries = omega arith in
    map-append (λ (x : Entry). x.number) entries (entry ∷ [])
    ∙ ap (λ (ns : List ℕ). ns ++ entry.number ∷ []) h
    ∙ ap (λ (n : ℕ). numbers_from 1 (length entries) ++ n ∷ []) next
    ∙ numbers_from-more 1 (length entries)
    ∙ ap (numbers_from 1) (sym (length_push entries entry))

module _ (setting : Setting) where
  step_numbered : (state : State) (sent : Sent) → AreNumbered state.entries → AreNumbered (fair_step setting state sent.0 sent.1.message sent.1.stamp).0.entries
  step_numbered state sent h = by_running (is_running state.ending)
    where
      by_refused : (b : Bool) → AreNumbered (running_step b setting state sent.0 sent.1.message sent.1.stamp).0.entries
      by_refused true = h
      by_refused false =
          let arrival : Arrival = arrival_of state sent in
          let (firing, (entries, _)) = recorded_by setting arrival (choice (messages_with arrival) (live_with arrival) (definitions_of setting.rules)) in
          rw entries (numbered_more state.entries _ h refl)

      by_running : (b : Bool) → AreNumbered (step_by b setting state sent.0 sent.1.message sent.1.stamp).0.entries
      by_running false = h
      by_running true = by_refused (is_refused setting state sent.1.message sent.1.stamp)

  pub all_numbered : (sent : List Sent) (state : State) → AreNumbered state.entries → AreNumbered (after_all setting state sent).entries
  all_numbered [] state h = h
  all_numbered (s ∷ sent) state h = all_numbered sent (fair_step setting state s.0 s.1.message s.1.stamp).0 (step_numbered state s h)

numbers_stay : (entries : List Entry) → map (λ (entry : Entry). entry.number) (map unstamped_entry entries) ≡ map (λ (entry : Entry). entry.number) entries
numbers_stay [] = refl
numbers_stay (entry ∷ entries) = ap (λ (ns : List ℕ). entry.number ∷ ns) (numbers_stay entries)

in_version_numbered : (version : ℕ) (own : ActorRun) → HasNumbers own → HasNumbers (in_version version own)
in_version_numbered version own h = by (version == 1)
  where
    by : (b : Bool) → HasNumbers (if b then unstamped own else own)
    by true = numbers_stay own.entries ∙ h ∙ ap (numbers_from 1) (sym (length-map own.entries unstamped_entry))
    by false = h

pub numbered_run : (plan : Plan) (limits : Limits) (feeds : List (List (ℕ × Message))) (run : Run) → IsLinked plan limits feeds run → AllByRecursion HasNumbers run.actors
numbered_run plan limits feeds run linked = each_from_get HasNumbers run.actors (λ actor own at.
    let fair = (linked.each actor own at).fair in
    rw fair (in_version_numbered run.version (fair_run plan actor limits run.feeds (given plan feeds run actor own.entries)) (all_numbered _ (given plan feeds run actor own.entries) _ refl)))
