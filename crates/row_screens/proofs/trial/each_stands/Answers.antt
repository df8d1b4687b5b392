use Rattle.std.proofs.Common.{◌∙◌, List, sym, subst}
use Rattle.std.specs.List.{AllByRecursion, list_all}
use Rattle.guard_eval.specs.Condition.{Condition}
use Rattle.guard_eval.specs.Meaning.{has_some, is_filled, needs_of}
use Rattle.guard_eval.specs.Shape.{conjunct_condition}
use Rattle.guard_eval.proofs.ExtendLemmas.{both_true}
use Rattle.pattern_core.specs.Suits.{NeedSuits}
use Rattle.pattern_core.proofs.GuardLemmas.{have_places, left_of, ready_where_filled}
use Rattle.pattern_core.proofs.SuitsLemmas.{length-SlotsSuit}
use Rattle.row_screens.proofs.trial.each_stands.Goals as goal

pub decided-requires : goal.decided-requires
decided-requires c =
    let a = c.args in
    let Suit : List Condition → Type 0 = λ cs. AllByRecursion (λ x. AllByRecursion (NeedSuits a.offer.now.messages.now a.offer.now.definition.now.patterns) (needs_of x)) cs in
    let left = left_of conjunct_condition c.as_slice-conjunct-items.result.now c.loop-conjunct.conjunct-index c.conjunct-item.result c.loop-conjunct-test.true c.conjunct-item.is in
    have_places a.offer.now.messages.now a.offer.now.definition.now.patterns a.slots.now (needs_of (conjunct_condition c.conjunct-item.result)) (length-SlotsSuit a.offer.now.messages.now a.offer.now.definition.now.patterns a.slots.now c.requires.suits) (subst Suit left c.loop-conjunct.invariant.needs).0

pub holds-requires : goal.holds-requires
holds-requires c =
    let a = c.args in
    let Suit : List Condition → Type 0 = λ cs. AllByRecursion (λ x. AllByRecursion (NeedSuits a.offer.now.messages.now a.offer.now.definition.now.patterns) (needs_of x)) cs in
    let left = left_of conjunct_condition c.as_slice-conjunct-items.result.now c.loop-conjunct.conjunct-index c.conjunct-item.result c.loop-conjunct-test.true c.conjunct-item.is in
    let needs = needs_of (conjunct_condition c.conjunct-item.result) in
    let filled = (both_true (has_some needs) (list_all (is_filled a.slots.now) needs) (sym c.decided.ensures ∙ c.if-decided.true)).1 in
    record { ready = ready_where_filled a.offer.now.messages.now a.offer.now.definition.now.patterns a.slots.now needs c.requires.suits (subst Suit left c.loop-conjunct.invariant.needs).0 filled }
