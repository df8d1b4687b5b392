use Rattle.std.proofs.Common.{◌≡◌, ◌∙◌, ◌∷◌, [], List, length, drop, sym, subst, arith}
use Rattle.std.specs.List.{filter}
use Rattle.std.proofs.lemmas.List.{take_at}
use Rattle.tree_rows.specs.Routes.{Route, Branch, rows_routes, lacks}
use Rattle.tree_rows.specs.Order.{AreOrdered, AreSound}
use Rattle.row_screens.specs.Offering.{offered}
use Rattle.tree_rows.proofs.OrderLemmas.{rows_ordered, rows_sound, ordered_filter}
use Rattle.match_tree.proofs.KeptLemmas.{all_kept}
use Rattle.match_tree.proofs.reserve.remove_found.Goals as goal

pub returns-clause-sound : goal.returns-clause-sound
returns-clause-sound c =
    let a = c.args in
    let o = offered a.offer.now in
    let after = c.take_back.new.rows in
    let is = take_at after (drop (length after) a.rows.now.items) a.rows.now.len (omega (arith, c.take_back.auto.rows, c.deref_mut.ensures.len)) in
    let old : List Route = rows_routes 0 a.rows.now.items in
    let routes : rows_routes 0 after ≡ filter (lacks (o.number ∷ [])) old = c.take_back.ensures.left ∙ (λ j. filter (lacks (o.number ∷ [])) (rows_routes 0 (c.deref_mut.ensures.value j))) in
    subst (λ (xs : List (List Branch)). AreSound xs) (sym is)
    (rows_sound 0 after (subst AreOrdered (sym routes) (ordered_filter (lacks (o.number ∷ [])) old (rows_ordered 0 a.rows.now.items c.requires.sound))))

pub returns-then-added-eq0-clause-left : goal.returns-then-added-eq0-clause-left
returns-then-added-eq0-clause-left c =
    let routes : List Route = rows_routes 0 c.args.rows.now.items in
    sym (all_kept (lacks (c.args.offer.now.number ∷ [])) routes (sym c.requires.added ∙ c.if-added-eq0.true))
