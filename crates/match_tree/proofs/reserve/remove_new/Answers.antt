use Rattle.std.proofs.Common.{◌≡◌, ◌∙◌, ◌++◌, ◌∷◌, [], ℕ, List, length, drop, ap, sym, subst, arith}
use Rattle.std.specs.List.{filter}
use Rattle.std.proofs.lemmas.List.{take_at}
use Rattle.tree_rows.specs.Routes.{Route, Branch, rows_routes, lacks}
use Rattle.tree_rows.specs.Order.{AreOrdered, AreSound}
use Rattle.tree_rows.proofs.OrderLemmas.{rows_ordered, rows_sound, ordered_filter}
use Rattle.match_tree.proofs.KeptLemmas.{all_kept}
use Rattle.match_tree.proofs.reserve.remove_new.Goals as goal

pub returns-clause-sound : goal.returns-clause-sound
returns-clause-sound c =
    let a = c.args in
    let after = c.prune_rows.new.rows in
    let is = take_at after (drop (length after) a.rows.now.items) a.rows.now.len (omega (arith, c.prune_rows.auto.rows, c.deref_mut.ensures.len)) in
    let numbers : c.push.new.self ≡ a.number ∷ [] = c.push.ensures.appended ∙ ap (λ (ns : List ℕ). ns ++ a.number ∷ []) c.new-numbers.ensures.empty in
    let old : List Route = rows_routes 0 a.rows.now.items in
    let routes : rows_routes 0 after ≡ filter (lacks (a.number ∷ [])) old = c.prune_rows.ensures.left ∙ (λ j. filter (lacks (numbers j)) (rows_routes 0 (c.deref_mut.ensures.value j))) in
    subst (λ (xs : List (List Branch)). AreSound xs) (sym is)
    (rows_sound 0 after (subst AreOrdered (sym routes) (ordered_filter (lacks (a.number ∷ [])) old (rows_ordered 0 a.rows.now.items c.requires.sound))))

pub returns-then-added-eq0-clause-left : goal.returns-then-added-eq0-clause-left
returns-then-added-eq0-clause-left c =
    let routes : List Route = rows_routes 0 c.args.rows.now.items in
    sym (all_kept (lacks (c.args.number ∷ [])) routes (sym c.requires.added ∙ c.if-added-eq0.true))
