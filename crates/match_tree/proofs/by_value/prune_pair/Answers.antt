use Rattle.std.proofs.Common.{◌≡◌, ◌∙◌, ◌++◌, ◌∷◌, [], ℕ, List, ap}
use Rattle.row_screens.specs.Offering.{offered}
use Rattle.match_tree.proofs.ThinLemmas.{pair_thinned}
use Rattle.match_tree.proofs.by_value.prune_pair.Goals as goal

pub returns-clause-left : goal.returns-clause-left
returns-clause-left c =
    let a = c.args in
    let one : c.push.new.self ≡ a.offer.now.number ∷ [] = c.push.ensures.appended ∙ ap (λ (ns : List ℕ). ns ++ a.offer.now.number ∷ []) c.new-one.ensures.empty in
    pair_thinned (offered a.offer.now) a.slots.now a.pattern a.other c.push.new.self c.in_ok-left.left a.nodes.now.items c.prune_found.new.nodes.items one c.requires.guarded c.in_ok-left.ensures c.prune_found.ensures.left
