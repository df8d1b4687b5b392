use Rattle.std.proofs.Common.{◌≡◌, ◌∙◌, ◌+◌, ◌-◌, ◌++◌, List, None, length, take, drop, ap, sym, subst, arith}
use Rattle.std.specs.Prelude.{Option}
use Rattle.std.specs.List.{filter}
use Rattle.std.proofs.lemmas.List.{take_at}
use Rattle.match_tree.specs.declared.pending.Pending.{Pending}
use Rattle.tree_rows.specs.Routes.{Route, Branch, rows_routes, lacks}
use Rattle.match_tree.specs.Tree.{Tree}
use Rattle.match_tree.specs.Kept.{IsKept}
use Rattle.match_tree.proofs.KeptLemmas.{kept_short, kept_fewer, settled_none, pruned_tree}
use Rattle.value_index.specs.Index.{no_index}
use Rattle.match_tree.specs.Kept.{tree_of}
use Rattle.row_screens.specs.Offers.{Offered}
use Rattle.row_screens.specs.Offering.{CanOffer, LeadOn}
use Rattle.match_tree.specs.Tree.{empty_of, offer_to}
use Rattle.match_tree.proofs.ReserveLemmas.{bare, reserve_lead}
use Rattle.match_tree.proofs.tree.MatchTree.prune.Goals.{After-oldest_seen}
use Rattle.match_tree.proofs.tree.MatchTree.prune.Goals as goal

abbrev offer_in : After-oldest_seen → Offered
offer_in c = record { messages = c.args.messages.now; index = c.args.index.now; definition = c.self.inside.definition; rule = c.self.inside.rule; number = c.args.number; oldest = c.oldest_seen.result }

pub prune_values-gone-requires-clause-few : goal.prune_values-gone-requires-clause-few
prune_values-gone-requires-clause-few c =
    let s = c.self.inside in
    let before = ap (λ (xs : List (List Branch)). length (rows_routes 0 xs)) c.deref_mut.ensures.value in
    omega (arith, c.self.invariant.counted, c.self.ranges)

pub prune_values-gone-requires-clause-short : goal.prune_values-gone-requires-clause-short
prune_values-gone-requires-clause-short c = kept_short c.deref_mut.ensures.value c.len-levels.ensures.count c.self.invariant

-- where the number behind may be offered to each path, with the index
leading : (c : After-oldest_seen) → CanOffer (offer_in c) (empty_of c.self.inside.definition) × LeadOn (offer_in c) (empty_of c.self.inside.definition) (rows_routes 0 c.self.inside.rows.items)
leading c =
    let s = c.self.inside in
    let old : List Route = rows_routes 0 s.rows.items in
    let same : bare (offer_in c) ≡ offer_to (tree_of s.definition s.rule None old) c.args.messages.now c.args.number = λ i. record { messages = c.args.messages.now; index = no_index; definition = s.definition; rule = s.rule; number = c.args.number; oldest = c.oldest_seen.ensures i } in
    reserve_lead s.definition s.rule s.pending old c.args.self.now c.args.messages.now c.args.number (offer_in c) c.self.view_is c.requires.settled same c.self.invariant.free_left c.requires.can c.requires.indexed

pub prune_values-gone-requires-clause-can : goal.prune_values-gone-requires-clause-can
prune_values-gone-requires-clause-can c = (leading (goal.at.prune_values-gone-requires-clause-can c).After-oldest_seen).0

pub prune_values-gone-requires-clause-lead : goal.prune_values-gone-requires-clause-lead
prune_values-gone-requires-clause-lead c =
    let s = c.self.inside in
    let At : List (List Branch) → Type 0 = λ xs. LeadOn (offer_in (goal.at.prune_values-gone-requires-clause-lead c).After-oldest_seen) (empty_of s.definition) (rows_routes 0 xs) in
    subst At (sym c.deref_mut.ensures.value) (leading (goal.at.prune_values-gone-requires-clause-lead c).After-oldest_seen).1

pub prune_values-gone-requires-clause-patterns : goal.prune_values-gone-requires-clause-patterns
prune_values-gone-requires-clause-patterns c = omega (arith, c.self.invariant.few, ap (λ (xs : List (List Branch)). length xs) c.deref_mut.ensures.value)

pub overflow_sub-self : goal.overflow_sub-self
overflow_sub-self c =
    let before = ap (λ (xs : List (List Branch)). length (rows_routes 0 xs)) c.deref_mut.ensures.value in
    omega (arith, c.self.invariant.counted, c.prune_values-gone.ensures.gone)

pub invariant_of-self : goal.invariant_of-self
invariant_of-self c =
    let s = c.self.inside in
    let after = c.prune_values-gone.new.rows in
    let numbers = c.args.numbers.now in
    let old : List Route = rows_routes 0 s.rows.items in
    let long : length after ≡ s.rows.len = omega (arith, c.prune_values-gone.auto.rows, c.deref_mut.ensures.len) in
    let is = take_at after (drop (length after) s.rows.items) s.rows.len long in
    let routes : rows_routes 0 after ≡ filter (lacks numbers) old = c.prune_values-gone.ensures.left ∙ (λ j. filter (lacks numbers) (rows_routes 0 (c.deref_mut.ensures.value j))) in
    let before : length (rows_routes 0 c.deref_mut.result.now) ≡ length old = ap (λ (xs : List (List Branch)). length (rows_routes 0 xs)) c.deref_mut.ensures.value in
    let none : s.pending ≡ None = settled_none s.definition s.pending old (ap (λ (t : Tree). t.reserve) c.self.view_is ∙ c.requires.settled) in
    let same_length : length after ≡ length s.rows.items = omega (arith, c.prune_values-gone.auto.rows, c.deref_mut.ensures.len, ap (λ (xs : List (List Branch)). length xs) c.deref_mut.ensures.value) in
    let same : length after ≡ length s.rows.items = same_length in
    let count : s.count - c.prune_values-gone.result ≡ 1 + length (rows_routes 0 after) = omega (arith, c.self.invariant.counted, c.prune_values-gone.ensures.gone) in
    let kept = kept_fewer s.definition s.rows.items after s.count (s.count - c.prune_values-gone.result) s.pending (lacks numbers) c.self.invariant same routes count in
    subst (λ (q : Option Pending). IsKept s.definition s.ties (take s.rows.len (after ++ drop (length after) s.rows.items)) (s.count - c.prune_values-gone.result) q) (sym none)
    (subst (λ (xs : List (List Branch)). IsKept s.definition s.ties xs (s.count - c.prune_values-gone.result) None) (sym is) kept)

pub returns : goal.returns
returns c =
    let s = c.self.inside in
    let after = c.prune_values-gone.new.rows in
    let numbers = c.args.numbers.now in
    let old : List Route = rows_routes 0 s.rows.items in
    let long : length after ≡ s.rows.len = omega (arith, c.prune_values-gone.auto.rows, c.deref_mut.ensures.len) in
    let is = take_at after (drop (length after) s.rows.items) s.rows.len long in
    let routes : rows_routes 0 after ≡ filter (lacks numbers) old = c.prune_values-gone.ensures.left ∙ (λ j. filter (lacks numbers) (rows_routes 0 (c.deref_mut.ensures.value j))) in
    let finally = ap (λ (xs : List (List Branch)). rows_routes 0 xs) is ∙ routes in
    pruned_tree s.definition s.rule s.pending old (rows_routes 0 (take s.rows.len (after ++ drop (length after) s.rows.items))) numbers c.args.self.now c.self.view_is c.requires.settled c.self.invariant.free_left finally
