use Rattle.std.proofs.Common.{◌≡◌, ◌∙◌, inr, sym, subst, true, Option}
use Rattle.std.specs.Prelude.{IfSome}
use Rattle.row_screens.specs.declared.screen.Screen.{Screen}
use Rattle.row_screens.specs.Offering.{offered}
use Rattle.row_screens.specs.Screen.{AreAsked, Passes, Screens, key_of, passes}
use Rattle.row_screens.proofs.SlotsLemmas.{none_is_free}
use Rattle.row_screens.proofs.ScreenLemmas.{fails_one, is_another, others}
use Rattle.row_screens.proofs.AskLemmas.{screen_asked}
use Rattle.row_screens.proofs.screen.is_worth.Goals as goal

pub returns-then-not-meets_all-clause-left_out : goal.returns-then-not-meets_all-clause-left_out
returns-then-not-meets_all-clause-left_out c =
    let a = c.args in
    let o = offered a.offer.now in
    let Is : Option Screen → Type 0 = λ s. IfSome s (Screens o a.slots.now a.pattern (others o a.slots.now a.pattern)) in
    let screen = c.in-Some.screen in
    let screens = subst Is c.in-Some.is c.requires.screen in
    let fails = sym c.meets_all.ensures ∙ c.if-not-meets_all.true in
    λ no. inr (fails_one o a.slots.now a.pattern a.number screen.other (none_is_free a.slots.now a.pattern c.requires.free) screens.alone screen.bounds screens.tested.bounds fails)

pub returns-then-not-is_same-clause-left_out : goal.returns-then-not-is_same-clause-left_out
returns-then-not-is_same-clause-left_out c =
    let a = c.args in
    let o = offered a.offer.now in
    let Is : Option Screen → Type 0 = λ s. IfSome s (Screens o a.slots.now a.pattern (others o a.slots.now a.pattern)) in
    let screen = c.in-Some.screen in
    let screens = subst Is c.in-Some.is c.requires.screen in
    let fails = sym c.is_same.ensures ∙ c.if-not-is_same.true in
    λ no. inr (is_another o a.slots.now a.pattern a.number screen.other (none_is_free a.slots.now a.pattern c.requires.free) screens.alone screen.same screens.tested.same fails)

pub returns-else-not-is_same-clause-asked : goal.returns-else-not-is_same-clause-asked
returns-else-not-is_same-clause-asked c =
    let a = c.args in
    let o = offered a.offer.now in
    let Is : Option Screen → Type 0 = λ s. IfSome s (Screens o a.slots.now a.pattern (others o a.slots.now a.pattern)) in
    let screen = c.in-Some.screen in
    let screens = subst Is c.in-Some.is c.requires.screen in
    λ yes keyed.
    let passed : Passes o screen a.number = record {
      key = subst (λ (s : Option Screen). passes o.messages (key_of s) a.number ≡ true) c.in-Some.is keyed;
      bounds = sym c.meets_all.ensures ∙ c.if-not-meets_all.false;
      same = sym c.is_same.ensures ∙ c.if-not-is_same.false;
    } in
    subst (λ (s : Option Screen). AreAsked o a.slots.now a.pattern s a.number) (sym c.in-Some.is)
    (screen_asked o a.slots.now a.pattern a.number (none_is_free a.slots.now a.pattern c.requires.free) c.requires.can screen screens passed (c.agrees.ensures.stand yes))
