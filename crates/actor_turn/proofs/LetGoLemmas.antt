-- Trees that expire, drop what was set aside, and lose the numbers of a firing.
use Rattle.std.proofs.Common.{◌≡◌, ℕ, List, [], ◌∷◌, map, refl, ap}
use Rattle.std.specs.List.{AllByRecursion}
use Rattle.join_base.specs.declared.message.Message.{Message}
use Rattle.join_base.proofs.EachLemmas.{each_filter}
use Rattle.pattern_core.specs.Window.{oldest_seen}
use Rattle.value_index.specs.Index.{Index}
use Rattle.row_screens.specs.Offering.{AreIndexed, CanOffer}
use Rattle.match_tree.specs.Tree.{Tree, is_path_seen, offer_to}
use Rattle.tree_law.specs.Trees.{AreSettled, CanOfferTo, HasPaths, expired_tree, pruned_tree, settled_tree}
use Rattle.actor_turn.specs.Parts.{fired_at}

pub settled_trees : (trees : List Tree) → AreSettled (map settled_tree trees)
settled_trees [] = tt
settled_trees (t ∷ trees) = (refl, settled_trees trees)

pub let_go_is : (number : ℕ) (taken : List ℕ) (trees : List Tree) → map (pruned_tree taken) (map settled_tree (map (expired_tree number) trees)) ≡ map (fired_at number taken) trees
let_go_is number taken [] = refl
let_go_is number taken (t ∷ trees) = ap (λ (ts : List Tree). fired_at number taken t ∷ ts) (let_go_is number taken trees)

-- what may be offered to all paths may be to those that are still seen
pub can_expired : (messages : List Message) (number : ℕ) (trees : List Tree) → AllByRecursion (CanOfferTo messages number) trees → AllByRecursion (CanOfferTo messages number) (map settled_tree (map (expired_tree number) trees))
can_expired messages number [] h = tt
can_expired messages number (t ∷ trees) h = (each_filter (CanOffer (offer_to t messages number)) (is_path_seen (oldest_seen t.definition.window number)) t.paths h.0, can_expired messages number trees h.1)

pub indexed_expired : (index : Index) (messages : List Message) (number : ℕ) (trees : List Tree) → AllByRecursion (HasPaths index messages) trees → AllByRecursion (HasPaths index messages) (map settled_tree (map (expired_tree number) trees))
indexed_expired index messages number [] h = tt
indexed_expired index messages number (t ∷ trees) h = (each_filter (AreIndexed index messages) (is_path_seen (oldest_seen t.definition.window number)) t.paths h.0, indexed_expired index messages number trees h.1)
