use Rattle.std.proofs.Common.{[], sym, subst, List, ℕ, ◌∙◌}
use Rattle.std.specs.List.{AllByRecursion}
use Rattle.match_tree.specs.Behind.{routes_behind}
use Rattle.row_screens.specs.Offers.{places, growing}
use Rattle.row_screens.specs.Offering.{offered, MayTake}
use Rattle.row_screens.proofs.MemberLemmas.{all_take}
use Rattle.match_tree.proofs.GrowLemmas.{grows_none}
use Rattle.match_tree.proofs.BeginLemmas.{grows_begun}
use Rattle.match_tree.proofs.at_leaf.visit_leaf.Goals as goal

pub best_match-best-requires-clause-may : goal.best_match-best-requires-clause-may
best_match-best-requires-clause-may g c =
    let a = c.args in
    let o = offered a.offer.now in
    subst (λ (ps : List ℕ). AllByRecursion (MayTake o a.slots.now) ps) (sym (c.takers-here.ensures.answer ∙ c.requires.wanted)) (all_take o a.slots.now (places 0 o.definition.patterns))

pub returns-clause-grows : goal.returns-clause-grows
returns-clause-grows g c =
    let a = c.args in
    let o = offered a.offer.now in
    λ none. grows_begun o a.slots.now (growing o a.slots.now) [] [] (routes_behind c.in_ok-rows.rows) (grows_none o a.slots.now) c.in_ok-rows.ensures.begins
