use Rattle.std.proofs.Common.{◌≡◌, ◌∙◌, ℕ, get_or}
use Rattle.std.proofs.lemmas.List.{get_or_default}
use Rattle.join_base.proofs.EachLemmas.{each_all, each_more}
use Rattle.row_screens.specs.Offering.{offered}
use Rattle.row_screens.specs.Look.{LooksUpAt}
use Rattle.row_screens.proofs.LookLemmas.{all_look}
use Rattle.row_screens.proofs.ScreenLemmas.{others}
use Rattle.row_screens.proofs.look.common_look.Goals as goal

pub loop-other-preserved : goal.loop-other-preserved
loop-other-preserved c =
    let a = c.args in
    let o = offered a.offer.now in
    let xs = c.as_slice-other-items.result.now in
    let i : ℕ = c.loop-other.other-index in
    let x : ℕ = get_or xs i 0 in
    let within = c.loop-other-test.true in
    each_more (λ p. LooksUpAt o a.slots.now a.pattern p c.in_ok-look.look) xs i x within (get_or_default xs i 0 x within) (c.is_looked.ensures c.if-not-is_looked.false) c.loop-other.invariant

pub returns : goal.returns
returns c =
    let a = c.args in
    let o = offered a.offer.now in
    let xs = c.as_slice-other-items.result.now in
    let is : xs ≡ others o a.slots.now a.pattern = c.as_slice-other-items.ensures.same ∙ c.requires.wanted in
    let all = each_all (λ p. LooksUpAt o a.slots.now a.pattern p c.in_ok-look.look) xs (others o a.slots.now a.pattern) c.loop-other.other-index c.loop-other-test.false is c.loop-other.invariant in
    all_look o a.slots.now a.pattern c.in_ok-look.look all
