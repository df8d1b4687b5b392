use Rattle.std.proofs.Common.{◌∙◌, ◌+◌, List, [], ◌∷◌, ◌++◌, replicate, length, arith, ap, append_assoc}
use Rattle.std.proofs.lemmas.List.{length_push, replicate_more}
use Rattle.tree_rows.specs.Routes.{Branch}
use Rattle.match_tree.proofs.at_leaf.grow_rows.Goals as goal

pub loop-rows-preserved : goal.loop-rows-preserved
loop-rows-preserved c =
    let k = c.loop-rows.invariant.same.0 in
    let before : List (List Branch) = c.reserve_exact.new.self.items in
    let items = c.in_ok-push.ensures.items in
    let none : List Branch = [] in
    record {
      few = omega (arith, ap (λ (xs : List (List Branch)). length xs) items, length_push c.loop-rows.rows.items c.new.result, c.loop-rows.rows.ok);
      same = (
        k + 1,
        items
            ∙ (λ i. c.loop-rows.invariant.same.1 i ++ c.new.ensures i ∷ [])
            ∙ append_assoc before (replicate k []) ([] ∷ [])
            ∙ ap (λ (rows : List (List Branch)). before ++ rows) (replicate_more k none),
      );
    }
