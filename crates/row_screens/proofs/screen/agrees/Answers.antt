use Rattle.std.proofs.Common.{◌≡◌, ◌∙◌, Some, None, not, ap, sym, subst}
use Rattle.std.specs.Prelude.{slice_get}
use Rattle.guard_eval.specs.Meaning.{Assignment}
use Rattle.pattern_core.specs.Matches.{is_agreeable}
use Rattle.pattern_core.specs.Suits.{SlotsSuit}
use Rattle.tree_rows.specs.Routes.{with_number}
use Rattle.row_screens.specs.Offering.{offered}
use Rattle.row_screens.specs.Trial.{AllStand, AreDecided}
use Rattle.row_screens.proofs.SlotsLemmas.{none_is_free}
use Rattle.row_screens.proofs.ScreenLemmas.{disagrees, other_free, tests_alike, whole_suits}
use Rattle.row_screens.proofs.TrialLemmas.{nothing_first}
use Rattle.row_screens.proofs.screen.agrees.Goals as goal

pub with-whole-requires : goal.with-whole-requires
with-whole-requires c =
    let a = c.args in
    let o = offered a.offer.now in
    let Free : Assignment → Type 0 = λ s. slice_get s a.screen.now.other ≡ Some None in
    subst Free (sym c.with-longer.ensures) (other_free o a.slots.now a.pattern a.number a.screen.now.other c.requires.screen.alone)

pub all_hold-requires-clause-suits : goal.all_hold-requires-clause-suits
all_hold-requires-clause-suits c =
    let a = c.args in
    let o = offered a.offer.now in
    let whole : with_number (with_number a.slots.now a.pattern a.number) a.screen.now.other o.number ≡ c.with-whole.result =
    ap (λ (s : Assignment). with_number s a.screen.now.other o.number) (sym c.with-longer.ensures) ∙ sym c.with-whole.ensures
    in
    subst (SlotsSuit o.messages o.definition.patterns) whole (whole_suits o a.slots.now a.pattern a.number a.screen.now.other c.requires.can c.requires.screen.alone)

pub all_hold-requires-clause-decided : goal.all_hold-requires-clause-decided
all_hold-requires-clause-decided c =
    let a = c.args in
    let o = offered a.offer.now in
    let whole : with_number (with_number a.slots.now a.pattern a.number) a.screen.now.other o.number ≡ c.with-whole.result =
    ap (λ (s : Assignment). with_number s a.screen.now.other o.number) (sym c.with-longer.ensures) ∙ sym c.with-whole.ensures
    in
    let Decided : Assignment → Type 0 = λ s. AreDecided o s a.screen.now.tests in
    subst Decided whole (tests_alike o a.slots.now a.pattern o.number a.number a.screen.now.other o.number a.screen.now.tests c.requires.screen.tested.tests)

pub returns : goal.returns
returns c =
    let a = c.args in
    let o = offered a.offer.now in
    let whole : with_number (with_number a.slots.now a.pattern a.number) a.screen.now.other o.number ≡ c.with-whole.result =
    ap (λ (s : Assignment). with_number s a.screen.now.other o.number) (sym c.with-longer.ensures) ∙ sym c.with-whole.ensures
    in
    record {
      fails = λ no. disagrees o a.slots.now a.pattern a.number a.screen.now.other (none_is_free a.slots.now a.pattern c.requires.free) c.requires.screen.alone (ap (is_agreeable o.messages o.definition.conjuncts) whole ∙ c.all_hold.ensures.fails no);
      stand = λ yes. subst (λ (s : Assignment). AllStand o s a.screen.now.tests) (sym whole) (c.all_hold.ensures.stand yes);
    }

pub returns-then-is_none-clause-stand : goal.returns-then-is_none-clause-stand
returns-then-is_none-clause-stand c =
    let tests = c.args.screen.now.tests in
    let none = nothing_first tests c.first.result c.first.ensures (c.is_none.ensures ∙ ap not c.if-is_none.true) in
    λ yes k small member. absurd (let bad = sym (none k) ∙ member in cc)
