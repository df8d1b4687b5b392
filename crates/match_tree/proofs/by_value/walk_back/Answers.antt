use Rattle.std.proofs.Common.{◌≡◌, ◌∙◌, ◌++◌, ◌∷◌, [], ℕ, List, map, ap}
use Rattle.tree_rows.specs.Pruned.{pruned}
use Rattle.match_tree.proofs.by_value.walk_back.Goals as goal

pub prune_nodes-requires : goal.prune_nodes-requires
prune_nodes-requires c = record { few = c.requires.few; ordered = c.requires.sound.ordered; short = c.requires.short; rising = c.requires.rising }

pub returns-clause-left : goal.returns-clause-left
returns-clause-left c =
    let one : c.push.new.self ≡ c.args.number ∷ [] = c.push.ensures.appended ∙ ap (λ (ns : List ℕ). ns ++ c.args.number ∷ []) c.new-one.ensures.empty in
    c.prune_nodes.ensures.left ∙ ap (λ (ns : List ℕ). map (pruned ns) c.args.nodes.now.items) one
