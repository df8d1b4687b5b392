use Rattle.std.proofs.Common.{◌≡◌, ◌∙◌, ◌+◌, ◌-◌, ◌++◌, ℕ, List, Some, length, take, drop, map, not, ap, sym, subst, arith}
use Rattle.std.specs.Prelude.{MatchOption}
use Rattle.std.specs.List.{filter}
use Rattle.std.proofs.lemmas.List.{take_at}
use Rattle.pattern_core.specs.Window.{oldest_seen}
use Rattle.match_tree.specs.declared.pending.Pending.{Pending}
use Rattle.tree_rows.specs.Routes.{Route, Branch, rows_routes, is_seen}
use Rattle.tree_rows.specs.Pruned.{seen_nodes}
use Rattle.match_tree.specs.Tree.{Tree, empty_of}
use Rattle.match_tree.specs.Kept.{IsKept}
use Rattle.match_tree.proofs.KeptLemmas.{kept_short}
use Rattle.match_tree.proofs.ExpireLemmas.{all_seen, no_window, open_seen, pending_at, sees_at, expired_kept, expired_at}
use Rattle.match_tree.proofs.tree.MatchTree.expire.Goals as goal

pub drop_unseen-gone-requires-clause-few : goal.drop_unseen-gone-requires-clause-few
drop_unseen-gone-requires-clause-few c =
    let s = c.self.inside in
    let before : length (rows_routes 0 c.deref_mut.result.now) ≡ length (rows_routes 0 s.rows.items) = ap (λ (xs : List (List Branch)). length (rows_routes 0 xs)) c.deref_mut.ensures.value in
    omega (arith, c.self.invariant.counted, c.self.ranges)

pub drop_unseen-gone-requires-clause-short : goal.drop_unseen-gone-requires-clause-short
drop_unseen-gone-requires-clause-short c = kept_short c.deref_mut.ensures.value c.len-levels.ensures.count c.self.invariant

pub overflow_sub-self : goal.overflow_sub-self
overflow_sub-self c =
    let before = ap (λ (xs : List (List Branch)). length (rows_routes 0 xs)) c.deref_mut.ensures.value in
    omega (arith, c.self.invariant.counted, c.drop_unseen-gone.ensures.gone)

pub invariant_of-self : goal.invariant_of-self
invariant_of-self c =
    let s = c.self.inside in
    let n : ℕ = c.args.number in
    let d = s.definition in
    let old : List Route = rows_routes 0 s.rows.items in
    let found = pending_at d s.pending old n (subst (λ (t : Tree). MatchOption t.reserve ⊥ (λ r. r.number ≡ n)) (sym c.self.view_is) c.requires.reserved) in
    let x : Pending = found.0 in
    let is : s.pending ≡ Some x = found.1.0 in
    let numbered : x.number ≡ n = found.1.1 in
    let sees = sees_at d s.rule s.pending x old c.args.self.now n c.self.view_is numbered c.requires.sees in
    let oldest_is : c.oldest_seen-oldest.result ≡ oldest_seen d.window x.number = c.oldest_seen-oldest.ensures ∙ ap (oldest_seen d.window) (sym numbered) in
    let after = c.drop_unseen-gone.new.rows in
    let long : length after ≡ s.rows.len = omega (arith, c.drop_unseen-gone.auto.rows, c.deref_mut.ensures.len) in
    let same_rows = take_at after (drop (length after) s.rows.items) s.rows.len long in
    let left : after ≡ map (seen_nodes c.oldest_seen-oldest.result) s.rows.items = c.drop_unseen-gone.ensures.left ∙ ap (λ (xs : List (List Branch)). map (seen_nodes c.oldest_seen-oldest.result) xs) c.deref_mut.ensures.value in
    let routes : rows_routes 0 after ≡ filter (is_seen (oldest_seen d.window x.number)) old =
    ap (rows_routes 0) left ∙ open_seen c.oldest_seen-oldest.result (empty_of d) s.rows.items c.self.invariant.free_left ∙ ap (λ (k : ℕ). filter (is_seen k) old) oldest_is
    in
    let before : length (rows_routes 0 c.deref_mut.result.now) ≡ length (rows_routes 0 s.rows.items) = ap (λ (xs : List (List Branch)). length (rows_routes 0 xs)) c.deref_mut.ensures.value in
    let same_length : length after ≡ length s.rows.items = omega (arith, c.drop_unseen-gone.auto.rows, c.deref_mut.ensures.len, ap (λ (xs : List (List Branch)). length xs) c.deref_mut.ensures.value) in
    let same : length after ≡ length s.rows.items = same_length in
    let count : s.count - c.drop_unseen-gone.result ≡ 1 + length (rows_routes 0 after) = omega (arith, c.self.invariant.counted, c.drop_unseen-gone.ensures.gone) in
    let kept = expired_kept d s.rows.items after s.count (s.count - c.drop_unseen-gone.result) s.pending x c.self.invariant is sees same routes count in
    subst (λ (xs : List (List Branch)). IsKept d s.ties xs (s.count - c.drop_unseen-gone.result) s.pending) (sym same_rows) kept

pub returns : goal.returns
returns c =
    let s = c.self.inside in
    let n : ℕ = c.args.number in
    let d = s.definition in
    let old : List Route = rows_routes 0 s.rows.items in
    let found = pending_at d s.pending old n (subst (λ (t : Tree). MatchOption t.reserve ⊥ (λ r. r.number ≡ n)) (sym c.self.view_is) c.requires.reserved) in
    let x : Pending = found.0 in
    let is : s.pending ≡ Some x = found.1.0 in
    let numbered : x.number ≡ n = found.1.1 in
    let sees = sees_at d s.rule s.pending x old c.args.self.now n c.self.view_is numbered c.requires.sees in
    let oldest_is : c.oldest_seen-oldest.result ≡ oldest_seen d.window x.number = c.oldest_seen-oldest.ensures ∙ ap (oldest_seen d.window) (sym numbered) in
    let after = c.drop_unseen-gone.new.rows in
    let long : length after ≡ s.rows.len = omega (arith, c.drop_unseen-gone.auto.rows, c.deref_mut.ensures.len) in
    let same_rows = take_at after (drop (length after) s.rows.items) s.rows.len long in
    let left : after ≡ map (seen_nodes c.oldest_seen-oldest.result) s.rows.items = c.drop_unseen-gone.ensures.left ∙ ap (λ (xs : List (List Branch)). map (seen_nodes c.oldest_seen-oldest.result) xs) c.deref_mut.ensures.value in
    let routes : rows_routes 0 after ≡ filter (is_seen (oldest_seen d.window x.number)) old =
    ap (rows_routes 0) left ∙ open_seen c.oldest_seen-oldest.result (empty_of d) s.rows.items c.self.invariant.free_left ∙ ap (λ (k : ℕ). filter (is_seen k) old) oldest_is
    in
    let finally = ap (λ (xs : List (List Branch)). rows_routes 0 xs) same_rows ∙ routes in
    expired_at d s.rule s.pending x old (rows_routes 0 (take s.rows.len (after ++ drop (length after) s.rows.items))) c.args.self.now n c.self.view_is is numbered c.self.invariant.free_left c.self.invariant.seen sees finally

pub returns-then-is_none : goal.returns-then-is_none
returns-then-is_none c =
    let s = c.self.inside in
    let n : ℕ = c.args.number in
    let d = s.definition in
    let old : List Route = rows_routes 0 s.rows.items in
    let found = pending_at d s.pending old n (subst (λ (t : Tree). MatchOption t.reserve ⊥ (λ r. r.number ≡ n)) (sym c.self.view_is) c.requires.reserved) in
    let x : Pending = found.0 in
    let sees = sees_at d s.rule s.pending x old c.args.self.now n c.self.view_is found.1.1 c.requires.sees in
    let none = no_window d.window (c.is_none.ensures ∙ ap not c.if-is_none.true) in
    sym c.self.view_is ∙ expired_at d s.rule s.pending x old old c.args.self.now n c.self.view_is found.1.0 found.1.1 c.self.invariant.free_left c.self.invariant.seen sees (all_seen d old x.number c.self.invariant.sees_all none)
