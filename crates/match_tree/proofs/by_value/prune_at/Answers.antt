use Rattle.std.proofs.Common.{◌≡◌, ◌≢◌, ◌∙◌, ◌<◌, ℕ, length, get_or, sym, subst, arith}
use Rattle.std.proofs.lemmas.List.{get_or_default}
use Rattle.tree_rows.specs.Routes.{Branch}
use Rattle.tree_rows.specs.Order.{IsOrderedNode}
use Rattle.tree_rows.specs.Pruned.{AreShort, RiseFrom}
use Rattle.tree_rows.specs.Rows.{leaf, node_at}
use Rattle.tree_rows.proofs.CountLemmas.{counts_parts}
use Rattle.match_tree.proofs.ThinLemmas.{count_set, same_thinned, thinned_set}
use Rattle.tree_rows.proofs.WalkLemmas.{all_at}
use Rattle.match_tree.proofs.by_value.prune_at.Goals as goal

pub index_mut-requires : goal.index_mut-requires
index_mut-requires c = omega (arith, c.in-Some.ensures.0, c.args.nodes.now.ok.0)

pub prune_node-requires : goal.prune_node-requires
prune_node-requires c =
    let items = c.args.nodes.now.items in
    let place : ℕ = c.in-Some.place in
    let d = c.index_mut.result.now in
    let is : d ≡ get_or items place d = c.index_mut.ensures.value in
    let within : place < length items = c.in-Some.ensures.0 in
    let count = counts_parts items place d within is in
    record {
      few = omega (arith, c.requires.few);
      ordered = subst IsOrderedNode (sym is) (all_at IsOrderedNode items place d within c.requires.sound.ordered);
      short = subst (λ (x : Branch). AreShort c.args.levels x.routes) (sym is) (all_at (λ (x : Branch). AreShort c.args.levels x.routes) items place d within c.requires.short);
      rising = subst (λ (x : Branch). RiseFrom x.number x.routes) (sym is) (all_at (λ (x : Branch). RiseFrom x.number x.routes) items place d within c.requires.rising);
    }

pub returns-in-None-clause-left : goal.returns-in-None-clause-left
returns-in-None-clause-left c =
    let items = c.args.nodes.now.items in
    let at : ℕ = c.args.at in
    same_thinned c.args.numbers.now (λ n. n ≢ at) items (λ i l. all_at (λ (x : Branch). x.number ≢ at) items i (leaf 0) l c.in-None.ensures)

pub returns-in-Some-clause-left : goal.returns-in-Some-clause-left
returns-in-Some-clause-left c =
    let items = c.args.nodes.now.items in
    let place : ℕ = c.in-Some.place in
    let d = c.index_mut.result.now in
    let within : place < length items = c.in-Some.ensures.0 in
    let is : d ≡ node_at items place = c.index_mut.ensures.value ∙ get_or_default items place d (leaf 0) within in
    thinned_set c.args.numbers.now items place c.args.at d c.prune_node.new.node within c.requires.sound.rise (c.in-Some.ensures.1 (leaf 0)) is c.prune_node.ensures.left

pub returns-in-Some-clause-gone : goal.returns-in-Some-clause-gone
returns-in-Some-clause-gone c =
    let items = c.args.nodes.now.items in
    let place : ℕ = c.in-Some.place in
    let d = c.index_mut.result.now in
    let within : place < length items = c.in-Some.ensures.0 in
    let count = count_set items place d c.prune_node.new.node within c.index_mut.ensures.value in
    omega (arith, c.prune_node.ensures.gone)
