use Rattle.std.proofs.Common.{◌≡◌, ◌∙◌, ℕ, Some, None, length, ap, sym, arith}
use Rattle.std.proofs.lemmas.List.{length-set}
use Rattle.std.proofs.lemmas.Option.{slice_get_within}
use Rattle.guard_eval.specs.Meaning.{Assignment}
use Rattle.pattern_core.proofs.SuitsLemmas.{length-SlotsSuit}
use Rattle.row_screens.specs.Offering.{offered}
use Rattle.row_screens.specs.Screen.{IsWith}
use Rattle.row_screens.proofs.screen.screen_of.Goals as goal

with_long : (slots longer : Assignment) (p n : ℕ) → IsWith slots p n longer → length longer ≡ length slots
with_long slots longer p n w = ap (λ (s : Assignment). length s) w.is ∙ length-set slots p (Some n)

pub with_free-requires : goal.with_free-requires
with_free-requires c =
    let o = offered c.args.offer.now in
    length-SlotsSuit o.messages o.definition.patterns c.args.slots.now c.requires.can.suits ∙ sym c.len-patterns.ensures.count

pub with_free-requires-2 : goal.with_free-requires-2
with_free-requires-2 c =
    let a = c.args in
    let o = offered a.offer.now in
    with_long a.slots.now c.in_ok-longer.longer a.pattern o.number c.in_ok-longer.ensures ∙ length-SlotsSuit o.messages o.definition.patterns a.slots.now c.requires.can.suits ∙ sym c.len-patterns.ensures.count

pub tests_of-requires-clause-long : goal.tests_of-requires-clause-long
tests_of-requires-clause-long c =
    let a = c.args in
    let o = offered a.offer.now in
    with_long c.in_ok-longer.longer c.in_ok-whole.whole _ o.number c.in_ok-whole.ensures ∙ with_long a.slots.now c.in_ok-longer.longer a.pattern o.number c.in_ok-longer.ensures ∙ length-SlotsSuit o.messages o.definition.patterns a.slots.now c.requires.can.suits

pub tests_of-requires-clause-within : goal.tests_of-requires-clause-within
tests_of-requires-clause-within c =
    let a = c.args in
    let o = offered a.offer.now in
    let first = c.in_ok-longer.ensures in
    omega (arith, slice_get_within a.slots.now a.pattern None first.free, with_long a.slots.now c.in_ok-longer.longer a.pattern o.number first, with_long c.in_ok-longer.longer c.in_ok-whole.whole _ o.number c.in_ok-whole.ensures)

pub tests_of-requires-clause-other_within : goal.tests_of-requires-clause-other_within
tests_of-requires-clause-other_within c =
    let o = offered c.args.offer.now in
    let second = c.in_ok-whole.ensures in
    omega (arith, slice_get_within c.in_ok-longer.longer _ None second.free, with_long c.in_ok-longer.longer c.in_ok-whole.whole _ o.number second)
