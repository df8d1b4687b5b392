use Rattle.std.proofs.Common.{◌≡◌, ◌∙◌, ℕ, List, Option, take, refl, sym, subst, arith}
use Rattle.fair_semantics.specs.declared.run.Entry.{Entry}
use Rattle.fair_semantics.specs.Linked.{firing_effects}
use Rattle.ask_board.specs.declared.view.Ask.{Ask}
use Rattle.answerer.specs.Answered.{Answered, AreTried, AreTriedBack}
use Rattle.answerer.proofs.AnsweredLemmas.{back_on, entries_stopped, entry_step, entry_tried}
use Rattle.answerer.proofs.answering.Answers.answer_entries.Goals as goal

pub returns-in_err-answer_firing-clause-answered :
    goal.returns-in_err-answer_firing-clause-answered
returns-in_err-answer_firing-clause-answered c =
    let same : c.as_slice.result.now ≡ c.args.progress.now.asks = c.as_slice.ensures.same ∙ c.loop-place.invariant.asks in
    let on = subst (λ (asks : List (Option Ask)). Answered asks (firing_effects c.index-entries-place.result.firing) c.loop-place.self c.answer_firing.new.self) same (subst (λ (x : Entry). Answered c.as_slice.result.now (firing_effects x.firing) c.loop-place.self c.answer_firing.new.self) (sym c.index-entries-place.is) c.answer_firing.ensures.answered) in
    entries_stopped c.args.progress.now.asks c.args.entries.now c.loop-place.place c.index-entries-place.result c.args.self.now c.loop-place.self c.answer_firing.new.self c.loop-place-test.true c.index-entries-place.is c.loop-place.invariant.answered on

pub returns-in_err-answer_firing-clause-tried : goal.returns-in_err-answer_firing-clause-tried
returns-in_err-answer_firing-clause-tried c =
    subst (λ (n : ℕ). AreTriedBack c.args.progress.now.asks (take n c.args.entries.now) c.answer_firing.new.self) (sym c.loop-place.invariant.done)
    (back_on c.args.progress.now.asks c.as_slice.result.now (firing_effects c.index-entries-place.result.firing) (take c.loop-place.place c.args.entries.now) c.loop-place.self c.answer_firing.new.self (subst (λ (x : Entry). Answered c.as_slice.result.now (firing_effects x.firing) c.loop-place.self c.answer_firing.new.self) (sym c.index-entries-place.is) c.answer_firing.ensures.answered) c.loop-place.invariant.tried)

pub loop-place-preserved : goal.loop-place-preserved
loop-place-preserved c =
    let same : c.as_slice.result.now ≡ c.args.progress.now.asks = c.as_slice.ensures.same ∙ c.loop-place.invariant.asks in
    let on = subst (λ (asks : List (Option Ask)). Answered asks (firing_effects c.index-entries-place.result.firing) c.loop-place.self c.answer_firing.new.self) same (subst (λ (x : Entry). Answered c.as_slice.result.now (firing_effects x.firing) c.loop-place.self c.answer_firing.new.self) (sym c.index-entries-place.is) c.answer_firing.ensures.answered) in
    let tried = subst (λ (asks : List (Option Ask)). AreTried asks (firing_effects c.index-entries-place.result.firing) c.answer_firing.new.self) same (subst (λ (x : Entry). AreTried c.as_slice.result.now (firing_effects x.firing) c.answer_firing.new.self) (sym c.index-entries-place.is) c.in_ok-answer_firing.ensures.tried) in
    record {
      answered = entry_step c.args.progress.now.asks c.args.entries.now c.loop-place.place c.index-entries-place.result c.args.self.now c.loop-place.self c.answer_firing.new.self c.loop-place-test.true c.index-entries-place.is c.loop-place.invariant.answered on;
      tried = entry_tried c.args.progress.now.asks c.args.entries.now c.loop-place.place c.index-entries-place.result c.loop-place.self c.answer_firing.new.self c.loop-place-test.true c.index-entries-place.is on c.loop-place.invariant.tried tried;
      done = refl;
      within = omega (arith, c.loop-place-test.true);
      asks = c.loop-place.invariant.asks;
    }
