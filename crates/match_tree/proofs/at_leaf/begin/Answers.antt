use Rattle.std.proofs.Common.{◌≡◌, ◌∙◌, ◌≤◌, ◌+◌, ◌++◌, ◌∷◌, [], ℕ, List, ap, sym, subst, arith, take, drop, length}
use Rattle.std.specs.List.{filter}
use Rattle.std.proofs.lemmas.List.{take_at}
use Rattle.tree_rows.specs.Routes.{Route, Branch, rows_routes, lacks}
use Rattle.join_base.specs.Taken.{contains_number}
use Rattle.row_screens.specs.Offers.{places, growing, takers}
use Rattle.row_screens.specs.Below.{AreOpen}
use Rattle.row_screens.specs.Offering.{offered}
use Rattle.tree_rows.specs.Order.{AreSound}
use Rattle.match_tree.specs.Begins.{AreLess, Begins}
use Rattle.row_screens.proofs.MemberLemmas.{all_take}
use Rattle.match_tree.proofs.BeginLemmas.{begins_nowhere}
use Rattle.match_tree.proofs.RowsLemmas.{rows_more, sound_more, less_more, begins_in_rows}
use Rattle.row_screens.proofs.FreeLemmas.{all_grow, none_grow}
use Rattle.match_tree.proofs.at_leaf.begin.Goals.{After-grow_rows}
use Rattle.match_tree.proofs.at_leaf.begin.Goals as goal

pub returns-then-not-leave_one_free-clause-begins : goal.returns-then-not-leave_one_free-clause-begins
returns-then-not-leave_one_free-clause-begins c =
    let o = offered c.args.offer.now in
    let slots = c.args.slots.now in
    let routes : List Route = rows_routes 0 c.args.rows.now.items in
    let none : growing o slots ≡ [] = none_grow o slots (takers o slots) (λ p free. c.leave_one_free.ensures p free ∙ c.if-not-leave_one_free.true) (all_take o slots (places 0 o.definition.patterns)) in
    λ _. subst (λ (ps : List ℕ). Begins o.number ps routes routes) (sym none) (begins_nowhere o.number routes)

-- all that may take the number grow
begun_are : (c : After-grow_rows) → c.args.able.now ≡ growing (offered c.args.offer.now) c.args.slots.now
begun_are c =
    let o = offered c.args.offer.now in
    let slots = c.args.slots.now in
    c.requires.able ∙ sym (all_grow o slots (takers o slots) (λ p free. c.leave_one_free.ensures p free ∙ c.if-not-leave_one_free.false) (all_take o slots (places 0 o.definition.patterns)))

pub returns-in-Err : goal.returns-in-Err
returns-in-Err c =
    let a = c.args in
    let n = a.offer.now.number in
    let e = c.grow_rows.ensures in
    let old = a.rows.now.items in
    let grown = c.grow_rows.new.rows.items in
    let more = rows_more old grown e.same.0 e.same.1 in
    record {
      few = e.few;
      sound = sound_more old grown e.same.0 e.same.1 c.requires.sound;
      free_left = subst (AreOpen a.slots.now) (sym more) c.requires.free_left;
      lasting = ap (filter (lacks (n ∷ []))) more;
      begins = λ k. absurd cc;
      counted = omega (arith, ap (λ (rs : List Route). length rs) more);
    }

pub begin_rows-requires : goal.begin_rows-requires
begin_rows-requires c =
    let a = c.args in
    let o = offered a.offer.now in
    let e = c.grow_rows.ensures in
    let old = a.rows.now.items in
    let grown = c.grow_rows.new.rows.items in
    let more = rows_more old grown e.same.0 e.same.1 in
    let same = sym c.deref_mut.ensures.value in
    let at : (P : List (List Branch) → Type 0) → P c.grow_rows.new.rows.items → P c.deref_mut.result.now = λ P p. subst P same p in
    record {
      can = c.requires.can;
      begun = begun_are (goal.at.begin_rows-requires c).After-grow_rows;
      few = at (λ xs. length xs ≤ 8) e.few;
      sound = at (λ xs. AreSound xs) (sound_more old grown e.same.0 e.same.1 c.requires.sound);
      less = at (λ xs. AreLess o.number xs) (less_more o.number old grown e.same.0 e.same.1 c.requires.less);
      free_left = at (λ xs. AreOpen a.slots.now (rows_routes 0 xs)) (subst (AreOpen a.slots.now) (sym more) c.requires.free_left);
    }

pub returns-in-Ok : goal.returns-in-Ok
returns-in-Ok c =
    let a = c.args in
    let o = offered a.offer.now in
    let slots = a.slots.now in
    let n = a.offer.now.number in
    let e = c.grow_rows.ensures in
    let old = a.rows.now.items in
    let items = c.grow_rows.new.rows.items in
    let more = rows_more old items e.same.0 e.same.1 in
    let same = c.deref_mut.ensures.value in
    let after = c.begin_rows.new.rows in
    let is = take_at after (drop (length after) items) c.grow_rows.new.rows.len (omega (arith, c.begin_rows.auto.rows, c.deref_mut.ensures.len)) in
    let put : (P : List (List Branch) → Type 0) → P after → P (take c.grow_rows.new.rows.len (after ++ drop (length after) items)) = λ P p. subst P (sym is) p in
    let routes : List (List Branch) → List Route = λ xs. rows_routes 0 xs in
    -- a fact of the rows as they were grown and are now is one of the rows as they were
    let both : (P : List Route → List Route → Type 0) → P (routes c.deref_mut.result.now) (routes after) → P (rows_routes 0 old) (routes (take c.grow_rows.new.rows.len (after ++ drop (length after) items))) =
    λ P p. put (λ xs. P (rows_routes 0 old) (routes xs)) (subst (λ (rs : List Route). P rs (routes after)) more (subst (λ (xs : List (List Branch)). P (routes xs) (routes after)) same p))
    in
    let b = c.begin_rows.ensures in
    let begun = begun_are (goal.at.returns-in-Ok c).After-grow_rows in
    let enough : length o.definition.patterns ≤ length c.deref_mut.result.now = omega (arith, c.in-Ok.ensures.room, c.len.ensures.count, ap (λ (xs : List (List Branch)). length xs) same) in
    record {
      few = put (λ xs. length xs ≤ 8) (omega (arith, e.few, c.begin_rows.auto.rows, ap (λ (xs : List (List Branch)). length xs) same));
      sound = put (λ xs. AreSound xs) b.sound;
      free_left = put (λ xs. AreOpen slots (routes xs)) b.free_left;
      lasting = both (λ xs ys. filter (lacks (n ∷ [])) ys ≡ filter (lacks (n ∷ [])) xs) b.lasting;
      begins = λ fits.
          let here = subst (λ (ps : List ℕ). Begins n (filter (contains_number ps) (places 0 c.deref_mut.result.now)) (routes c.deref_mut.result.now) (routes after)) begun (b.begins fits) in
          both (λ xs ys. Begins n (growing o slots) xs ys) (begins_in_rows o slots c.deref_mut.result.now (routes c.deref_mut.result.now) (routes after) enough here);
      counted = both (λ xs ys. c.begin_rows.new.count + length xs ≡ a.count.now + length ys) b.counted;
    }
