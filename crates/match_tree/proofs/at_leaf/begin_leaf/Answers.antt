use Rattle.std.proofs.Common.{Vec, ◌∙◌, [], ◌∷◌, List, ap, sym, subst}
use Rattle.std.specs.declared.alloc.Global.{Global}
use Rattle.std.specs.List.{filter}
use Rattle.tree_rows.specs.Routes.{Branch, rows_routes, lacks}
use Rattle.match_tree.specs.Behind.{IsBehind}
use Rattle.tree_rows.proofs.OrderLemmas.{rows_ordered_behind}
use Rattle.match_tree.proofs.at_leaf.begin_leaf.Goals as goal

pub returns-in-Ok-clause-behind : goal.returns-in-Ok-clause-behind
returns-in-Ok-clause-behind c =
    let a = c.args in
    let n = a.offer.now.number in
    let e = c.begin.ensures in
    let same = ap (λ (rows : Vec (List Branch) Global). rows.items) (sym c.in-Ok.ensures.ok) in
    let At : List (List Branch) → Type 0 = λ rows. IsBehind a.slots.now n (rows_routes 0 rows) in
    subst At same (record {
      ordered = rows_ordered_behind 0 c.begin.new.rows.items e.sound;
      free_left = e.free_left;
      lasting = e.lasting ∙ ap (λ (rows : List (List Branch)). filter (lacks (n ∷ [])) (rows_routes 0 rows)) c.new-rows.ensures.items;
    })
