use Rattle.std.proofs.Common.{◌≡◌, ◌∙◌, ◌-◌, ◌++◌, ◌∷◌, [], ℕ, List, None, length, take, drop, ap, sym, subst, arith}
use Rattle.std.specs.Prelude.{Option}
use Rattle.std.specs.List.{filter}
use Rattle.std.proofs.lemmas.List.{take_at}
use Rattle.match_tree.specs.declared.pending.Pending.{Pending}
use Rattle.tree_rows.specs.Routes.{Route, Branch, rows_routes, lacks}
use Rattle.match_tree.specs.Kept.{IsKept, tree_of}
use Rattle.match_tree.proofs.KeptLemmas.{kept_short, kept_aside, kept_fewer, forgotten, none_added}
use Rattle.tree_rows.specs.Pruned.{AreRising}
use Rattle.match_tree.specs.Tree.{empty_of}
use Rattle.match_tree.proofs.OpenLemmas.{rising_open}
use Rattle.match_tree.proofs.tree.MatchTree.forget.Goals as goal

pub prune_rows-requires-clause-few : goal.prune_rows-requires-clause-few
prune_rows-requires-clause-few c =
    let s = c.self.inside in
    let before = ap (λ (xs : List (List Branch)). length (rows_routes 0 xs)) c.deref_mut.ensures.value in
    omega (arith, c.self.invariant.counted, c.self.ranges)

pub prune_rows-requires-clause-short : goal.prune_rows-requires-clause-short
prune_rows-requires-clause-short c = kept_short c.deref_mut.ensures.value c.len-levels.ensures.count c.self.invariant

pub overflow_sub-self : goal.overflow_sub-self
overflow_sub-self c =
    let s = c.self.inside in
    let whole = kept_aside s.definition s.rows.items s.count s.pending c.in-Some.pending c.self.invariant (sym c.take.ensures.value ∙ c.in-Some.is) in
    omega arith

pub invariant_of-self-then-pending-gt0 : goal.invariant_of-self-then-pending-gt0
invariant_of-self-then-pending-gt0 c =
    let s = c.self.inside in
    let x = c.in-Some.pending in
    let after = c.prune_rows.new.rows in
    let long : length after ≡ s.rows.len = omega (arith, c.prune_rows.auto.rows, c.deref_mut.ensures.len) in
    let is = take_at after (drop (length after) s.rows.items) s.rows.len long in
    let taken = sym c.take.ensures.value ∙ c.in-Some.is in
    let whole = kept_aside s.definition s.rows.items s.count s.pending x c.self.invariant taken in
    let numbers : c.push.new.self ≡ x.number ∷ [] = c.push.ensures.appended ∙ ap (λ (ns : List ℕ). ns ++ x.number ∷ []) c.new-numbers.ensures.empty in
    let routes : rows_routes 0 after ≡ filter (lacks (x.number ∷ [])) (rows_routes 0 s.rows.items) = c.prune_rows.ensures.left ∙ (λ j. filter (lacks (numbers j)) (rows_routes 0 (c.deref_mut.ensures.value j))) in
    let count = ap (λ (rs : List Route). length rs) routes in
    let same_length : length after ≡ length s.rows.items = omega (arith, c.prune_rows.auto.rows, c.deref_mut.ensures.len, ap (λ (xs : List (List Branch)). length xs) c.deref_mut.ensures.value) in
    let same : length after ≡ length s.rows.items = same_length in
    subst (λ (q : Option Pending). IsKept s.definition s.ties (take s.rows.len (after ++ drop (length after) s.rows.items)) (s.count - x.aside) q) (sym c.take.ensures.after)
    (subst (λ (xs : List (List Branch)). IsKept s.definition s.ties xs (s.count - x.aside) None) (sym is)
    (kept_fewer s.definition s.rows.items after s.count (s.count - x.aside) s.pending (lacks (x.number ∷ [])) c.self.invariant same routes (omega arith)))

pub returns-then-pending-gt0 : goal.returns-then-pending-gt0
returns-then-pending-gt0 c =
    let s = c.self.inside in
    let x = c.in-Some.pending in
    let after = c.prune_rows.new.rows in
    let is = take_at after (drop (length after) s.rows.items) s.rows.len (omega (arith, c.prune_rows.auto.rows, c.deref_mut.ensures.len)) in
    let taken = sym c.take.ensures.value ∙ c.in-Some.is in
    let numbers : c.push.new.self ≡ x.number ∷ [] = c.push.ensures.appended ∙ ap (λ (ns : List ℕ). ns ++ x.number ∷ []) c.new-numbers.ensures.empty in
    let routes : rows_routes 0 after ≡ filter (lacks (x.number ∷ [])) (rows_routes 0 s.rows.items) = c.prune_rows.ensures.left ∙ (λ j. filter (lacks (numbers j)) (rows_routes 0 (c.deref_mut.ensures.value j))) in
    let finally = ap (λ (xs : List (List Branch)). rows_routes 0 xs) is ∙ routes in
    ap (λ (q : Option Pending). tree_of s.definition s.rule q (rows_routes 0 (take s.rows.len (after ++ drop (length after) s.rows.items)))) c.take.ensures.after
    ∙ forgotten s.definition s.rule s.pending x (rows_routes 0 s.rows.items) (rows_routes 0 (take s.rows.len (after ++ drop (length after) s.rows.items))) c.args.self.now c.self.view_is taken finally

pub returns-else-pending-gt0 : goal.returns-else-pending-gt0
returns-else-pending-gt0 c =
    let s = c.self.inside in
    let x = c.in-Some.pending in
    let taken = sym c.take.ensures.value ∙ c.in-Some.is in
    let routes = rows_routes 0 s.rows.items in
    let left = none_added s.definition s.rows.items s.count s.pending x c.self.invariant taken (omega (arith, c.if-pending-gt0.false)) in
    ap (λ (q : Option Pending). tree_of s.definition s.rule q routes) c.take.ensures.after ∙ forgotten s.definition s.rule s.pending x routes routes c.args.self.now c.self.view_is taken left

pub prune_rows-requires-clause-rising : goal.prune_rows-requires-clause-rising
prune_rows-requires-clause-rising c =
    let s = c.self.inside in
    subst (λ (xs : List (List Branch)). AreRising (rows_routes 0 xs)) (sym c.deref_mut.ensures.value) (rising_open (empty_of s.definition) (rows_routes 0 s.rows.items) c.self.invariant.free_left)
