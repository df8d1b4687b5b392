use Rattle.std.proofs.Common.{◌≡◌, ◌∙◌, ◌+◌, ◌≤◌, ◌<◌, ℕ, List, Option, length, sym, ap, subst, arith}
use Rattle.std.proofs.lemmas.List.{length-map}
use Rattle.tree_rows.specs.Routes.{Branch}
use Rattle.tree_rows.specs.RowNumbers.{numbers_in}
use Rattle.tree_rows.specs.Rows.{node_at}
use Rattle.row_screens.specs.Offering.{offered}
use Rattle.row_screens.specs.Screen.{AreAsked, AreLacking, IsOffered, IsWorthless}
use Rattle.row_screens.specs.declared.screen.Key.{Key}
use Rattle.row_screens.proofs.SlotsLemmas.{free_is_none}
use Rattle.row_screens.proofs.ScreenLemmas.{worthless_on}
use Rattle.row_screens.proofs.KeyLemmas.{lacking_on, number_there}
use Rattle.row_screens.proofs.screen.next_scanned.Goals as goal
use Rattle.row_screens.proofs.screen.next_scanned.Goals.{After-at, After-with_key-place}

-- the row has as many nodes as there are numbers
ends : (g : _) (c : After-with_key-place g) → c.len-end.result ≡ length c.args.row.now
ends g c = c.len-end.ensures ∙ ap (λ (ns : List ℕ). length ns) c.of-numbers.ensures ∙ length-map c.args.row.now (λ (node : Branch). node.number)

pub loop-place-init : goal.loop-place-init
loop-place-init g c =
    let a = c.args in
    let o = offered a.offer.now in
    let e = c.with_key-place.ensures in
    let to : ℕ = c.with_key-place.result in
    let lacking = subst (λ (k : Option Key). AreLacking o.messages k (numbers_in c.of-numbers.result) a.from to) c.key_of-key.ensures e.lacking in
    record {
      from = e.from;
      within = omega (arith, e.within, c.len-end.ensures);
      worthless = lacking_on o a.slots.now a.pattern a.row.now (numbers_in c.of-numbers.result) a.screen.now a.from a.from to c.of-numbers.ensures c.requires.offered c.requires.screen (omega arith) (omega (arith, e.within, c.len-end.ensures, ends g c)) (λ i l m. absurd (omega arith)) lacking;
      counted = e.counted;
    }

-- the number there may be tried
offered_there : (g : _) (c : After-at g) → IsOffered (offered c.args.offer.now) c.args.slots.now c.args.pattern c.at.result
offered_there g c =
    let a = c.args in
    let place : ℕ = c.loop-place.place in
    let number : (node_at a.row.now place).number ≡ c.at.result = sym (number_there a.row.now (numbers_in c.of-numbers.result) place c.of-numbers.ensures) ∙ sym c.at.ensures in
    let within : place < length a.row.now = omega (arith, c.loop-place-test.true, c.len-end.ensures, ap (λ (ns : List ℕ). length ns) c.of-numbers.ensures, length-map a.row.now (λ (node : Branch). node.number)) in
    subst (IsOffered (offered a.offer.now) a.slots.now a.pattern) number (c.requires.offered place c.loop-place.invariant.from within)

pub passes_screen-requires-clause-can : goal.passes_screen-requires-clause-can
passes_screen-requires-clause-can g c = (offered_there g c).can

pub passes_screen-requires-clause-free : goal.passes_screen-requires-clause-free
passes_screen-requires-clause-free g c = free_is_none c.args.slots.now c.args.pattern (offered_there g c).free

pub loop-place-preserved : goal.loop-place-preserved
loop-place-preserved g c =
    let a = c.args in
    let o = offered a.offer.now in
    let e = c.with_key-place-in-loop-place.ensures in
    let place : ℕ = c.loop-place.place in
    let to : ℕ = c.with_key-place-in-loop-place.result in
    let number : c.at.result ≡ (node_at a.row.now place).number = c.at.ensures ∙ number_there a.row.now (numbers_in c.of-numbers.result) place c.of-numbers.ensures in
    let here = subst (IsWorthless o a.slots.now a.pattern) number (c.passes_screen.ensures.left_out c.if-passes_screen.false) in
    let before = worthless_on o a.slots.now a.pattern a.row.now a.from place c.loop-place.invariant.worthless here in
    let lacking = subst (λ (k : Option Key). AreLacking o.messages k (numbers_in c.of-numbers.result) (place + 1) to) c.key_of-key.ensures e.lacking in
    let within : to ≤ length a.row.now = omega (arith, e.within, c.len-end.ensures, ap (λ (ns : List ℕ). length ns) c.of-numbers.ensures, length-map a.row.now (λ (node : Branch). node.number)) in
    record {
      from = omega (arith, c.loop-place.invariant.from, e.from);
      within = omega (arith, e.within, c.len-end.ensures);
      worthless = lacking_on o a.slots.now a.pattern a.row.now (numbers_in c.of-numbers.result) a.screen.now a.from (place + 1) to c.of-numbers.ensures c.requires.offered c.requires.screen (omega (arith, c.loop-place.invariant.from)) within before lacking;
      counted = omega (arith, c.loop-place.invariant.counted, c.tick.ensures, e.counted);
    }

pub returns-then-passes_screen-clause-asked : goal.returns-then-passes_screen-clause-asked
returns-then-passes_screen-clause-asked g c =
    let a = c.args in
    let number : c.at.result ≡ (node_at a.row.now c.loop-place.place).number = c.at.ensures ∙ number_there a.row.now (numbers_in c.of-numbers.result) c.loop-place.place c.of-numbers.ensures in
    λ l. subst (AreAsked (offered a.offer.now) a.slots.now a.pattern a.screen.now) number (c.passes_screen.ensures.asked c.if-passes_screen.true)
