use Rattle.std.proofs.Common.{◌++◌, ◌∙◌, arith, ap, List, ℕ, Option, Some, None}
use Rattle.std.proofs.lemmas.Option.{slice_get_within}
use Rattle.std.proofs.lemmas.Result.{on_ok_weaker}
use Rattle.pattern_core.proofs.SuitsLemmas.{length-SlotsSuit}
use Rattle.waiting_reasons.specs.Text.{slot_lines}
use Rattle.waiting_reasons.proofs.SlotLemmas.{number_there}
use Rattle.waiting_reasons.proofs.patterns.write_slot.Goals as goal

pub get-requires : goal.get-requires
get-requires c = record {
  within = omega (arith, slice_get_within c.args.rule.now.definition.patterns c.args.place c.args.kind c.requires.kind, length-SlotsSuit c.args.messages.now c.args.rule.now.definition.patterns c.args.slots.now c.requires.suits);
}

pub returns-in-Some : goal.returns-in-Some
returns-in-Some c =
    let a = c.args in
    let there = number_there a.slots.now a.place (Some c.in-Some.number) c.in-Some.ensures.place in
    on_ok_weaker c.write_standing.result (λ e. e ∙ ap (λ (o : Option ℕ). a.text.now ++ slot_lines a.plan.now a.rule.now a.messages.now a.left.now a.slots.now a.place a.kind o) there) c.write_standing.ensures

pub returns-in-None : goal.returns-in-None
returns-in-None c =
    let a = c.args in
    let there = number_there a.slots.now a.place None c.in-None.ensures.place in
    on_ok_weaker c.write_missing.result (λ e. e ∙ ap (λ (o : Option ℕ). a.text.now ++ slot_lines a.plan.now a.rule.now a.messages.now a.left.now a.slots.now a.place a.kind o) there) c.write_missing.ensures
