use Rattle.std.proofs.Common.{◌≡◌, ◌++◌, ◌∙◌, List, ℕ, ap, length, slice_set, Some, subst, sym}
use Rattle.std.proofs.lemmas.Result.{on_ok_weaker}
use Rattle.guard_eval.specs.Meaning.{Assignment}
use Rattle.guard_eval.specs.Shape.{conjunct_condition}
use Rattle.pattern_core.specs.Suits.{SlotsSuit}
use Rattle.pattern_core.proofs.SuitsLemmas.{length-SlotsSuit}
use Rattle.plan_text.specs.PlanNames.{Variables}
use Rattle.waiting_reasons.specs.Text.{false_text}
use Rattle.waiting_reasons.proofs.TextLemmas.{further_false, further_fits}
use Rattle.waiting_reasons.proofs.patterns.write_further.Goals as goal

pub first_false-requires-clause-suits : goal.first_false-requires-clause-suits
first_false-requires-clause-suits c = subst (SlotsSuit c.args.messages.now c.args.rule.now.definition.patterns) (sym c.with-longer.ensures) c.requires.longer

pub write_false-requires : goal.write_false-requires
write_false-requires c =
    ap (λ (s : Assignment). length s) c.with-longer.ensures
    ∙ length-SlotsSuit c.args.messages.now c.args.rule.now.definition.patterns (slice_set c.args.slots.now c.args.place (Some c.args.number)) c.requires.longer
    ∙ sym c.len-patterns.ensures.count

pub returns-in-Some : goal.returns-in-Some
returns-in-Some c =
    let a = c.args in
    let conjunct = conjunct_condition c.in-Some.conjunct.now in
    let same =
    ap (λ (vs : Variables). false_text vs a.messages.now c.with-longer.result conjunct) c.as_slice-variables.ensures.same
    ∙ further_false a.rule.now a.messages.now a.slots.now c.with-longer.result a.place a.number c.with-longer.ensures conjunct c.in-Some.ensures
    in on_ok_weaker c.write_false.result (λ e. e ∙ ap (λ (t : List ℕ). a.text.now ++ t) same) c.write_false.ensures

pub returns-in-None : goal.returns-in-None
returns-in-None c =
    let a = c.args in
    let same = further_fits a.rule.now a.messages.now a.slots.now c.with-longer.result a.place a.number c.with-longer.ensures c.in-None.ensures in
    on_ok_weaker c.push_all.result (λ e. e ∙ ap (λ (t : List ℕ). a.text.now ++ t) same) c.push_all.ensures.ok
