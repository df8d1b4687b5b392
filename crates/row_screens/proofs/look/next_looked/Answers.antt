use Rattle.std.proofs.Common.{◌≡◌, ◌<◌, ◌≤◌, inr, ℕ, true, nat_le, length, sym, subst, arith}
use Rattle.value_index.specs.ValueRange.{Ascend}
use Rattle.tree_rows.specs.Rows.{node_at}
use Rattle.row_screens.specs.Offering.{offered}
use Rattle.row_screens.specs.Screen.{AreAsked, AreWorthless, IsOffered, IsWorthless}
use Rattle.row_screens.proofs.SlotsLemmas.{free_is_none}
use Rattle.row_screens.proofs.ScreenLemmas.{worthless_on}
use Rattle.row_screens.proofs.LookLemmas.{fails_meet, left_before, left_behind, left_more, left_none, worthless_both}
use Rattle.row_screens.proofs.look.next_looked.Goals as goal
use Rattle.row_screens.proofs.look.next_looked.Goals.{After-place_in-place, After-number_at-there}

pub loop-number-init : goal.loop-number-init
loop-number-init g c = record {
  from = omega arith;
  order = omega arith;
  within = c.requires.within;
  ascend = c.requires.left.ascend;
  worthless = λ i l m. absurd (omega (arith, l, m));
  left = c.requires.left.has;
  counted = omega arith;
}

-- ---- a number that fails the bounds or the text

pub loop-number-preserved-then-fails_early : goal.loop-number-preserved-then-fails_early
loop-number-preserved-then-fails_early g c =
    let a = c.args in
    let o = offered a.offer.now in
    let before = c.loop-number.invariant in
    let f = c.fails_early.ensures in
    let yes = c.if-fails_early.true in
    let place : ℕ = c.loop-number.place in
    let fails = f.fails yes in
    let there = λ (i : ℕ) (l : place ≤ i) (m : i < length a.row.now) (same : (node_at a.row.now i).number ≡ c.in-Some.number).
    subst (IsOffered o a.slots.now a.pattern) same (c.requires.offered i (omega (arith, l, before.from, before.order)) m) in
    let worthless : (i : ℕ) → place ≤ i → i < length a.row.now → (node_at a.row.now i).number ≡ c.in-Some.number → IsWorthless o a.slots.now a.pattern c.in-Some.number =
    λ i l m same. inr (fails_meet o a.slots.now a.pattern c.in-Some.number a.screen.now (there i l m same).free c.requires.screen fails)
    in
    record {
      from = omega (arith, before.from);
      order = omega (arith, f.spare yes);
      within = before.within;
      ascend = (subst Ascend c.in-Some.ensures before.ascend).1;
      worthless = before.worthless;
      left = left_more o a.slots.now a.pattern a.row.now place c.requires.rise c.in-Some.number c.loop-number.left c.next.new.self c.in-Some.ensures worthless before.left;
      counted = omega (arith, before.counted, f.counted yes);
    }

-- ---- a number whose place is found

-- those before the place are not worth a visit
passed : (g : _) (c : After-place_in-place g) → AreWorthless (offered c.args.offer.now) c.args.slots.now c.args.pattern c.args.row.now c.args.from c.place_in-place.result
passed g c =
    let a = c.args in
    let o = offered a.offer.now in
    let before = c.loop-number.invariant in
    let e = c.place_in-place.ensures in
    let here = left_before o a.slots.now a.pattern a.row.now c.loop-number.place c.requires.rise c.in-Some.number c.place_in-place.result c.loop-number.left c.next.new.self c.in-Some.ensures before.ascend e.within e.less before.left in
    worthless_both o a.slots.now a.pattern a.row.now a.from c.loop-number.place c.place_in-place.result before.worthless here

-- the row's number there may be tried
offered_there : (g : _) (c : After-number_at-there g) → IsOffered (offered c.args.offer.now) c.args.slots.now c.args.pattern c.number_at-there.result
offered_there g c =
    let a = c.args in
    let before = c.loop-number.invariant in
    let e = c.place_in-place.ensures in
    let place : ℕ = c.place_in-place.result in
    let within : place < length a.row.now = omega (arith, c.if-place-end.false, c.len-end.ensures) in
    subst (IsOffered (offered a.offer.now) a.slots.now a.pattern) (sym c.number_at-there.ensures) (c.requires.offered place (omega (arith, before.from, before.order, e.from)) within)

pub looks_worth-requires-clause-can : goal.looks_worth-requires-clause-can
looks_worth-requires-clause-can g c = (offered_there g (goal.at.looks_worth-requires-clause-can g c).After-number_at-there).can

pub looks_worth-requires-clause-free : goal.looks_worth-requires-clause-free
looks_worth-requires-clause-free g c = free_is_none c.args.slots.now c.args.pattern (offered_there g (goal.at.looks_worth-requires-clause-free g c).After-number_at-there).free

pub loop-number-preserved : goal.loop-number-preserved
loop-number-preserved g c =
    let a = c.args in
    let o = offered a.offer.now in
    let before = c.loop-number.invariant in
    let e = c.place_in-place.ensures in
    let place : ℕ = c.place_in-place.result in
    let within : place < length a.row.now = omega (arith, c.if-place-end.false, c.len-end.ensures) in
    let none = subst (IsWorthless o a.slots.now a.pattern) c.number_at-there.ensures (c.looks_worth.ensures.left_out c.if-looks_worth.false) in
    record {
      from = omega (arith, before.from);
      order = omega (arith, before.order, e.from);
      within = omega (arith, within);
      ascend = (subst Ascend c.in-Some.ensures before.ascend).1;
      worthless = worthless_on o a.slots.now a.pattern a.row.now a.from place (passed g (goal.at.loop-number-preserved g c).After-place_in-place) none;
      left = left_behind o a.slots.now a.pattern a.row.now c.loop-number.place c.requires.rise c.in-Some.number place c.loop-number.left c.next.new.self c.in-Some.ensures e.from (e.reached within) before.left;
      counted = omega (arith, before.counted, c.fails_early.ensures.uncounted c.if-fails_early.false, c.looks_worth.ensures.counted c.if-looks_worth.false);
    }

pub returns-then-place-end : goal.returns-then-place-end
returns-then-place-end g c =
    let a = c.args in
    let before = c.loop-number.invariant in
    let e = c.place_in-place.ensures in
    let all = passed g (goal.at.returns-then-place-end g c).After-place_in-place in
    record {
      from = omega (arith, c.requires.within, c.len-end.ensures);
      within = omega (arith, c.len-end.ensures);
      seen = λ l. absurd (omega (arith, l, c.len-end.ensures));
      asked = λ l. absurd (omega (arith, l, c.len-end.ensures));
      skipped = λ i l m. all i l (omega (arith, m, c.if-place-end.true));
      left = λ l. absurd (omega (arith, l, c.len-end.ensures));
      counted = omega (arith, before.counted, before.order, before.within, c.fails_early.ensures.uncounted c.if-fails_early.false, c.len-end.ensures);
    }

pub returns-then-looks_worth : goal.returns-then-looks_worth
returns-then-looks_worth g c =
    let a = c.args in
    let before = c.loop-number.invariant in
    let e = c.place_in-place.ensures in
    record {
      from = omega (arith, before.from, before.order, e.from);
      within = e.within;
      seen = λ l. subst (λ (n : ℕ). nat_le a.offer.now.oldest n ≡ true) c.number_at-there.ensures (c.looks_worth.ensures.seen c.if-looks_worth.true);
      asked = λ l. subst (AreAsked (offered a.offer.now) a.slots.now a.pattern a.screen.now) c.number_at-there.ensures (c.looks_worth.ensures.asked c.if-looks_worth.true);
      skipped = passed g (goal.at.returns-then-looks_worth g c).After-place_in-place;
      left = λ l. record {
        ascend = (subst Ascend c.in-Some.ensures before.ascend).1;
        has = left_behind (offered a.offer.now) a.slots.now a.pattern a.row.now c.loop-number.place c.requires.rise c.in-Some.number c.place_in-place.result c.loop-number.left c.next.new.self c.in-Some.ensures e.from (e.reached l) before.left;
      };
      counted = omega (arith, before.counted, before.order, e.from, c.fails_early.ensures.uncounted c.if-fails_early.false, c.looks_worth.ensures.uncounted c.if-looks_worth.true);
    }

pub returns : goal.returns
returns g c =
    let a = c.args in
    let o = offered a.offer.now in
    let before = c.loop-number.invariant in
    let none = left_none o a.slots.now a.pattern a.row.now c.loop-number.place c.requires.rise c.loop-number.left c.in_default.ensures before.left in
    let all = worthless_both o a.slots.now a.pattern a.row.now a.from c.loop-number.place (length a.row.now) before.worthless none in
    record {
      from = omega (arith, c.requires.within, c.len-end.ensures);
      within = omega (arith, c.len-end.ensures);
      seen = λ l. absurd (omega (arith, l, c.len-end.ensures));
      asked = λ l. absurd (omega (arith, l, c.len-end.ensures));
      skipped = λ i l m. all i l (omega (arith, m, c.len-end.ensures));
      left = λ l. absurd (omega (arith, l, c.len-end.ensures));
      counted = omega (arith, before.counted, before.order, before.within, c.len-end.ensures);
    }
