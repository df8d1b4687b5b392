use Rattle.std.proofs.Common.{◌∙◌, inr, Option, ap, sym}
use Rattle.row_screens.specs.Offering.{offered}
use Rattle.row_screens.specs.declared.screen.Key.{Key}
use Rattle.row_screens.specs.Screen.{passes}
use Rattle.row_screens.proofs.SlotsLemmas.{none_is_free}
use Rattle.row_screens.proofs.ScreenLemmas.{lacks_screen}
use Rattle.row_screens.proofs.screen.passes_screen.Goals as goal

pub returns-then-not-has_key-clause-left_out : goal.returns-then-not-has_key-clause-left_out
returns-then-not-has_key-clause-left_out c =
    let a = c.args in
    let o = offered a.offer.now in
    let free = none_is_free a.slots.now a.pattern c.requires.free in
    let fails = sym c.has_key.ensures ∙ c.if-not-has_key.true in
    λ no. inr (lacks_screen o a.slots.now a.pattern a.number a.screen.now c.key_of.result free c.requires.screen c.key_of.ensures fails)

pub returns-clause-asked : goal.returns-clause-asked
returns-clause-asked c =
    let a = c.args in
    let messages = a.offer.now.messages.now in
    λ yes. c.is_worth.ensures.asked yes (ap (λ (k : Option Key). passes messages k a.number) (sym c.key_of.ensures) ∙ sym c.has_key.ensures ∙ c.if-not-has_key.false)
