use Rattle.std.proofs.Common.{◌≡◌, ◌∙◌, ◌<◌, ◌+◌, ◌∷◌, [], ℕ, List, sym, subst, refl, arith, zero-add, take, get_or, length}
use Rattle.std.specs.List.{filter}
use Rattle.std.proofs.lemmas.List.{take_all, drop-set-lt}
use Rattle.std.proofs.lemmas.Bool.{and_parts}
use Rattle.tree_rows.specs.Routes.{Branch, row_routes, rows_routes, lacks}
use Rattle.join_base.specs.Taken.{contains_number}
use Rattle.row_screens.specs.Offers.{places}
use Rattle.row_screens.specs.Below.{IsOpen, AreOpen}
use Rattle.tree_rows.specs.Order.{IsSoundRow, AreSound}
use Rattle.match_tree.specs.Begins.{IsLess, Begins}
use Rattle.match_tree.proofs.LeadLemmas.{all_both}
use Rattle.tree_rows.proofs.PruneLemmas.{all_rows}
use Rattle.tree_rows.proofs.WalkLemmas.{all_at, left_item, left_more}
use Rattle.match_tree.proofs.BeginLemmas.{begins_nowhere}
use Rattle.tree_rows.proofs.RowsLemmas.{now_routes, counts_rows_on}
use Rattle.match_tree.proofs.RowsLemmas.{sound_on, same_on, begins_on}
use Rattle.match_tree.proofs.at_leaf.begin_rows.Goals as goal

pub begin_row-fits-requires : goal.begin_row-fits-requires
begin_row-fits-requires c =
    let a = c.args in
    let i : ℕ = c.loop-place.place in
    let d = c.index-rows-place.result in
    let first = a.rows.now in
    let items = c.loop-place.rows in
    let is : get_or items i d ≡ get_or first i d = left_item items first i d c.loop-place.invariant.left in
    let in_rows : i < length first = omega (arith, c.loop-place-test.true, c.loop-place.auto.rows) in
    let opens = all_rows (IsOpen a.slots.now) 0 first i d in_rows c.requires.free_left in
    let Open : ℕ → Type 0 = λ k. AreOpen a.slots.now (row_routes k (get_or first i d)) in
    record {
      can = c.requires.can;
      begun = c.requires.begun;
      sound = subst (λ (xs : List Branch). IsSoundRow xs) (sym is) (all_at IsSoundRow first i d in_rows c.requires.sound);
      less = subst (IsLess a.offer.now.number) (sym is) (all_at (IsLess a.offer.now.number) first i d in_rows c.requires.less);
      free_left = subst (λ (xs : List Branch). AreOpen a.slots.now (row_routes i xs)) (sym is) (subst Open (zero-add i) opens);
    }

pub loop-place-init : goal.loop-place-init
loop-place-init c = record { sound = tt; opens = tt; lasts = refl; left = refl; begins = λ _. begins_nowhere c.args.offer.now.number []; counted = refl }

pub loop-place-preserved : goal.loop-place-preserved
loop-place-preserved c =
    let a = c.args in
    let n = a.offer.now.number in
    let i : ℕ = c.loop-place.place in
    let d = c.index-rows-place.result in
    let first = a.rows.now in
    let items = c.loop-place.rows in
    let row = get_or items i d in
    let is : row ≡ get_or first i d = left_item items first i d c.loop-place.invariant.left in
    let in_rows : i < length first = omega (arith, c.loop-place-test.true, c.loop-place.auto.rows) in
    let in_items : i < length items = omega (arith, c.loop-place-test.true, c.loop-place.auto.rows) in
    let now = c.begin_row-fits.new.row in
    let e = c.begin_row-fits.ensures in
    let counts = counts_rows_on first items i row now d in_rows in_items is in
    let old : List (List Branch) = take (i + 1) first in
    record {
      sound = (sound_on first items i row now d in_rows in_items is c.loop-place.invariant.sound e.sound);
      opens = (subst (AreOpen a.slots.now) (sym (now_routes first items i row now d in_rows in_items is)) (all_both (IsOpen a.slots.now) (rows_routes 0 (take i items)) (row_routes i now) c.loop-place.invariant.opens e.free_left));
      lasts = (same_on first items i row now d in_rows in_items is n c.loop-place.invariant.lasts e.lasting);
      left = drop-set-lt (i + 1) items i now (omega arith) ∙ left_more items first i c.loop-place.invariant.left;
      begins = λ fits.
          let both = and_parts c.loop-place.fits c.begin_row-fits.result fits in
          (begins_on first items i row now d in_rows in_items is n a.begun.now (c.loop-place.invariant.begins both.0) (e.begins both.1));
      counted = omega (arith, c.loop-place.invariant.counted, e.counted, counts.0, counts.1);
    }

pub returns : goal.returns
returns c =
    let a = c.args in
    let n = a.offer.now.number in
    let items = c.loop-place.rows in
    let i : ℕ = c.loop-place.place in
    let B = a.rows.now in
    let R = items in
    let all : take i B ≡ B = take_all i B (omega (arith, c.loop-place-test.false, c.loop-place.auto.rows)) in
    let all' : take i R ≡ R = take_all i R (omega (arith, c.loop-place-test.false, c.loop-place.auto.rows)) in
    let inv = c.loop-place.invariant in
    let both : (P : List (List Branch) → List (List Branch) → Type 0) → P (take i B) (take i R) → P B R = λ P p. subst (λ (xs : List (List Branch)). P xs R) all (subst (P (take i B)) all' p) in
    record {
      sound = subst AreSound all' inv.sound;
      free_left = subst (λ (xs : List (List Branch)). AreOpen a.slots.now (rows_routes 0 xs)) all' inv.opens;
      lasting = both (λ xs ys. filter (lacks (n ∷ [])) (rows_routes 0 ys) ≡ filter (lacks (n ∷ [])) (rows_routes 0 xs)) inv.lasts;
      begins = λ fits. both (λ xs ys. Begins n (filter (contains_number a.begun.now) (places 0 xs)) (rows_routes 0 xs) (rows_routes 0 ys)) (inv.begins fits);
      counted = both (λ xs ys. c.loop-place.count + length (rows_routes 0 xs) ≡ a.count.now + length (rows_routes 0 ys)) inv.counted;
    }
