use Rattle.std.proofs.Common.{◌≡◌, ◌∙◌, ◌<◌, ◌^◌, ◌∷◌, [], List, length, map, ap, sym, subst}
use Rattle.std.specs.declared.collections.VecDeque.{VecDeque}
use Rattle.std.specs.declared.alloc.Global.{Global}
use Rattle.std.specs.List.{AllByRecursion}
use Rattle.tree_rows.specs.declared.node.Node.{Node}
use Rattle.tree_rows.specs.declared.row.Row.TheInside.{Inside}
use Rattle.tree_rows.specs.Shapes.{branches}
use Rattle.tree_rows.specs.Routes.{Branch, row_routes}
use Rattle.row_screens.specs.Offering.{offered}
use Rattle.tree_rows.specs.Order.{IsSoundRow}
use Rattle.tree_rows.specs.Pruned.{AreShort, pruned}
use Rattle.match_tree.specs.Thinned.{NodesContinuePath}
use Rattle.tree_rows.proofs.LeafLemmas.{leaves_kept}
use Rattle.match_tree.proofs.by_value.prune_behind_values.Goals as goal
use Rattle.match_tree.proofs.by_value.prune_behind_values.Goals.{in-Empty, in-One, in-Leaves, in-Many, in-Mixed}

pub prune_mixed-requires : goal.prune_mixed-requires
prune_mixed-requires c =
    let a = c.args in
    let is : c.in-Mixed.nodes.value.items ≡ a.row.now = sym (ap branches c.in-Mixed.is) ∙ c.row.view_is in
    let same : a.row.now ≡ c.deref_mut.result.now.items = sym (ap (λ (v : VecDeque Node Global). v.items) c.deref_mut.ensures.value ∙ is) in
    let at : (P : List Branch → Type 0) → P a.row.now → P c.deref_mut.result.now.items = λ P p. subst P same p in
    record {
      empty = c.requires.empty;
      can = c.requires.can;
      recorded = c.requires.recorded;
      go_on = at (λ xs. NodesContinuePath (offered a.offer.now) a.slots.now a.pattern xs) c.requires.go_on;
      few = at (λ xs. length (row_routes 0 xs) < 2 ^ 64) c.requires.few;
      sound = at (λ xs. IsSoundRow xs) c.requires.sound;
      short = at (λ xs. AllByRecursion (λ node. AreShort a.levels node.routes) xs) c.requires.short;
    }

pub returns-clause-left : goal.returns-clause-left
returns-clause-left c =
    let row = c.args.row.now in
    let numbers = c.args.numbers.now in
    let seen : Inside → List Branch = λ x. branches x.nodes in
    elim c.match-row.branch [
      | in-Empty w ↦ ap seen w.row-inside-is ∙ c.row.view_is ∙ leaves_kept numbers [] row (sym c.row.view_is ∙ ap branches w.in-Empty.is)
      | in-One w ↦ ap seen w.row-inside-is ∙ c.row.view_is ∙ leaves_kept numbers (w.in-One.field-0 ∷ []) row (sym c.row.view_is ∙ ap branches w.in-One.is)
      | in-Leaves w ↦ ap seen w.row-inside-is ∙ c.row.view_is ∙ leaves_kept numbers w.in-Leaves.field-0.value.items row (sym c.row.view_is ∙ ap branches w.in-Leaves.is)
      | in-Many w ↦ ap seen w.row-inside-is ∙ c.row.view_is ∙ leaves_kept numbers w.in-Many.field-0.value row (sym c.row.view_is ∙ ap branches w.in-Many.is)
      | in-Mixed w ↦
          let is : w.deref_mut.result.now.items ≡ row = ap (λ (v : VecDeque Node Global). v.items) w.deref_mut.ensures.value ∙ sym (ap branches w.in-Mixed.is) ∙ c.row.view_is in
          ap seen w.row-inside-is ∙ w.prune_mixed.ensures.left ∙ ap (map (pruned numbers)) is
    ]
