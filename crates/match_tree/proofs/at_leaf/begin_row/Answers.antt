use Rattle.std.proofs.Common.{◌≡◌, ◌∙◌, ◌+◌, ◌++◌, ◌∷◌, [], ℕ, List, Bool, cond, ap, sym, subst, refl, arith, length}
use Rattle.std.specs.List.{filter}
use Rattle.tree_rows.specs.Routes.{Route, Branch, row_routes, lacks}
use Rattle.join_base.specs.Taken.{contains_number}
use Rattle.row_screens.specs.Below.{AreOpen}
use Rattle.row_screens.specs.Offering.{offered}
use Rattle.tree_rows.specs.Order.{IsSoundRow}
use Rattle.match_tree.specs.Begins.{Begins}
use Rattle.match_tree.proofs.BeginLemmas.{begins_nowhere}
use Rattle.match_tree.proofs.OpenLemmas.{open_push}
use Rattle.tree_rows.specs.Rows.{leaf}
use Rattle.match_tree.proofs.RowsLemmas.{push_sound, push_begins, push_same, push_count}
use Rattle.match_tree.proofs.at_leaf.begin_row.Goals as goal

pub returns-then-not-contains-clause-begins : goal.returns-then-not-contains-clause-begins
returns-then-not-contains-clause-begins c =
    let a = c.args in
    let routes : List Route = row_routes a.pattern a.row.now in
    let begins : Bool → Type 0 = λ b. Begins a.offer.now.number (cond b (a.pattern ∷ []) []) routes routes in
    λ _. subst begins (sym (sym c.contains.ensures ∙ c.if-not-contains.true)) (begins_nowhere a.offer.now.number routes)

pub returns-in-Ok : goal.returns-in-Ok
returns-in-Ok c =
    let a = c.args in
    let o = offered a.offer.now in
    let n = a.offer.now.number in
    let q : ℕ = a.pattern in
    let row : List Branch = a.row.now in
    let e = c.in-Ok.ensures in
    let begins : Bool → Type 0 = λ b. Begins n (cond b (q ∷ []) []) (row_routes q row) (row_routes q (row ++ leaf n ∷ [])) in
    let contained = sym c.contains.ensures ∙ c.if-not-contains.false in
    let at : (P : List Branch → Type 0) → P (row ++ leaf n ∷ []) → P c.push_leaf.new.row = λ P p. subst P (sym e.ok) p in
    record {
      sound = at (λ xs. IsSoundRow xs) (push_sound n row c.requires.sound c.requires.less);
      free_left = at (λ xs. AreOpen a.slots.now (row_routes q xs)) (open_push o a.slots.now q row c.requires.can (ap (λ (ps : List ℕ). contains_number ps q) (sym c.requires.begun) ∙ contained) c.requires.free_left);
      lasting = at (λ xs. filter (lacks (n ∷ [])) (row_routes q xs) ≡ filter (lacks (n ∷ [])) (row_routes q row)) (push_same n q row);
      begins = λ _. at (λ xs. Begins n (filter (contains_number a.begun.now) (q ∷ [])) (row_routes q row) (row_routes q xs)) (subst begins (sym contained) (push_begins n q row));
      counted = at (λ xs. c.push_leaf.new.count + length (row_routes q row) ≡ a.count.now + length (row_routes q xs)) (omega (arith, e.counted, push_count n q row));
    }

pub returns-in-Err : goal.returns-in-Err
returns-in-Err c =
    let a = c.args in
    let n = a.offer.now.number in
    let q : ℕ = a.pattern in
    let row : List Branch = a.row.now in
    let e = c.in-Err.ensures in
    let at : (P : List Branch → Type 0) → P row → P c.push_leaf.new.row = λ P p. subst P (sym e.err) p in
    record {
      sound = at (λ xs. IsSoundRow xs) c.requires.sound;
      free_left = at (λ xs. AreOpen a.slots.now (row_routes q xs)) c.requires.free_left;
      lasting = at (λ xs. filter (lacks (n ∷ [])) (row_routes q xs) ≡ filter (lacks (n ∷ [])) (row_routes q row)) refl;
      begins = λ k. absurd cc;
      counted = at (λ xs. c.push_leaf.new.count + length (row_routes q row) ≡ a.count.now + length (row_routes q xs)) (omega (arith, e.uncounted));
    }
