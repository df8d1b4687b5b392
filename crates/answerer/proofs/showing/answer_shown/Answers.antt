use Rattle.std.proofs.Common.{◌≡◌, ◌∙◌, ◌<◌, ℕ, List, Option, get_or, length, map, take, refl, sym, ap, subst, arith}
use Rattle.std.proofs.lemmas.List.{length-map}
use Rattle.fair_semantics.specs.declared.run.Entry.{Entry}
use Rattle.fair_semantics.specs.declared.run.Firing.{Firing}
use Rattle.fair_semantics.specs.Linked.{firing_effects}
use Rattle.ask_board.specs.declared.view.Ask.{Ask}
use Rattle.answerer.specs.Answered.{Answered, AreTried, AreTriedBack}
use Rattle.answerer.proofs.AnsweredLemmas.{back_on, entries_stopped, entry_step, entry_tried}
use Rattle.answerer.proofs.BesideLemmas.{entry_there, firing_there}
use Rattle.answerer.proofs.showing.answer_shown.Goals as goal

pub returns-in_err-answer_firing-clause-answered :
    goal.returns-in_err-answer_firing-clause-answered
returns-in_err-answer_firing-clause-answered c =
    let entries : List Entry = c.args.state.now.state.entries in
    let l : c.loop-place.place < length entries = omega (arith, c.loop-place-test.true, ap length c.firings-place-end.ensures.fired, length-map entries (λ (entry : Entry). entry.firing)) in
    let (x, _, here) = entry_there entries c.loop-place.place l in
    let firing : Option Firing = c.index-firings-place.result in
    let is : firing ≡ get_or (map (λ (entry : Entry). entry.firing) entries) c.loop-place.place firing = c.index-firings-place.is ∙ ap (λ (fs : List (Option Firing)). get_or fs c.loop-place.place firing) c.firings.ensures.fired in
    let same : firing ≡ x.firing = firing_there entries c.loop-place.place x firing l here is in
    let asks : c.as_slice.result.now ≡ c.args.progress.now.asks = c.as_slice.ensures.same ∙ c.loop-place.invariant.asks in
    let own = subst (λ (f : Option Firing). Answered c.as_slice.result.now (firing_effects f) c.loop-place.answers c.answer_firing.new.self) same c.answer_firing.ensures.answered in
    let on = subst (λ (os : List (Option Ask)). Answered os (firing_effects x.firing) c.loop-place.answers c.answer_firing.new.self) asks own in
    entries_stopped c.args.progress.now.asks entries c.loop-place.place x c.args.answers.now c.loop-place.answers c.answer_firing.new.self l here c.loop-place.invariant.answered on

pub returns-in_err-answer_firing-clause-tried : goal.returns-in_err-answer_firing-clause-tried
returns-in_err-answer_firing-clause-tried c =
    let entries : List Entry = c.args.state.now.state.entries in
    let own = c.answer_firing.ensures.answered in
    subst (λ (n : ℕ). AreTriedBack c.args.progress.now.asks (take n entries) c.answer_firing.new.self) (sym c.loop-place.invariant.done)
    (back_on c.args.progress.now.asks c.as_slice.result.now (firing_effects c.index-firings-place.result) (take c.loop-place.place entries) c.loop-place.answers c.answer_firing.new.self own c.loop-place.invariant.tried)

pub loop-place-preserved : goal.loop-place-preserved
loop-place-preserved c =
    let entries : List Entry = c.args.state.now.state.entries in
    let l : c.loop-place.place < length entries = omega (arith, c.loop-place-test.true, ap length c.firings-place-end.ensures.fired, length-map entries (λ (entry : Entry). entry.firing)) in
    let (x, _, here) = entry_there entries c.loop-place.place l in
    let firing : Option Firing = c.index-firings-place.result in
    let is : firing ≡ get_or (map (λ (entry : Entry). entry.firing) entries) c.loop-place.place firing = c.index-firings-place.is ∙ ap (λ (fs : List (Option Firing)). get_or fs c.loop-place.place firing) c.firings.ensures.fired in
    let same : firing ≡ x.firing = firing_there entries c.loop-place.place x firing l here is in
    let asks : c.as_slice.result.now ≡ c.args.progress.now.asks = c.as_slice.ensures.same ∙ c.loop-place.invariant.asks in
    let own = subst (λ (f : Option Firing). Answered c.as_slice.result.now (firing_effects f) c.loop-place.answers c.answer_firing.new.self) same c.answer_firing.ensures.answered in
    let on = subst (λ (os : List (Option Ask)). Answered os (firing_effects x.firing) c.loop-place.answers c.answer_firing.new.self) asks own in
    let tried_own = subst (λ (f : Option Firing). AreTried c.as_slice.result.now (firing_effects f) c.answer_firing.new.self) same c.in_ok-answer_firing.ensures.tried in
    let tried = subst (λ (os : List (Option Ask)). AreTried os (firing_effects x.firing) c.answer_firing.new.self) asks tried_own in
    record {
      answered = entry_step c.args.progress.now.asks entries c.loop-place.place x c.args.answers.now c.loop-place.answers c.answer_firing.new.self l here c.loop-place.invariant.answered on;
      tried = entry_tried c.args.progress.now.asks entries c.loop-place.place x c.loop-place.answers c.answer_firing.new.self l here on c.loop-place.invariant.tried tried;
      done = refl;
      within = omega (arith, l);
      asks = c.loop-place.invariant.asks;
    }
