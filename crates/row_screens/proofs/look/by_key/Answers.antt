use Rattle.std.proofs.Common.{◌≡◌, ℤ, rules, w64, to_z, of_z, sym, subst}
use Rattle.std.proofs.lemmas.Int.{to_z-of_z}
use Rattle.row_screens.specs.Offering.{offered}
use Rattle.row_screens.specs.Look.{LooksUpAt}
use Rattle.row_screens.proofs.LookLemmas.{key_looks}
use Rattle.row_screens.proofs.look.by_key.Goals as goal

pub returns : goal.returns
returns c =
    let a = c.args in
    let o = offered a.offer.now in
    let key = c.in_ok-key.key in
    let fits : to_z w64 (of_z w64 key.value) ≡ key.value = search (rules, to_z-of_z) in
    let looks = key_looks o a.slots.now a.pattern a.kind c.in_ok-place.place a.screen.now c.requires.kind c.requires.tested key c.in_ok-key.was c.in_ok-place.ensures in
    subst (λ (v : ℤ). LooksUpAt o a.slots.now a.pattern a.screen.now.other (record { place = c.in_ok-place.place; value = v })) (sym fits) looks
