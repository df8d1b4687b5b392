use Rattle.std.proofs.Common.{◌≡◌, ◌∙◌, List, Bool, map, subst, sym, ap}
use Rattle.std.specs.Prelude.{if◌then◌else◌}
use Rattle.std.specs.List.{AllByRecursion}
use Rattle.join_base.specs.declared.message.Message.{Message}
use Rattle.mailbox_core.specs.Mail.{Mail, recorded_messages}
use Rattle.match_tree.specs.Tree.{Tree}
use Rattle.tree_law.specs.Trees.{AreSettled, CanOfferTo, HasPaths, cleared_tree, expired_tree, settled_tree, pruned_tree}
use Rattle.actor_turn.specs.Parts.{fired_at}
use Rattle.actor_turn.proofs.LetGoLemmas.{can_expired, indexed_expired, let_go_is, settled_trees}
use Rattle.actor_turn.proofs.step.let_go.Goals as goal

pub prune_all-requires : goal.prune_all-requires
prune_all-requires c =
    let a = c.args in
    let before : map settled_tree (map (expired_tree a.number) a.trees.now) ≡ c.forget_all.new.trees = ap (map settled_tree) (sym c.expire_all.ensures) ∙ sym c.forget_all.ensures in
    let messages : recorded_messages a.mail.now.mail.arrivals ≡ c.messages.result.now = sym (c.messages.ensures.messages ∙ ap (λ (m : Mail). recorded_messages m.arrivals) c.consume.ensures.consumed) in
    let Can : List Message × List Tree → Type 0 = λ x. AllByRecursion (CanOfferTo x.0 a.number) x.1 in
    let Indexed : List Message × List Tree → Type 0 = λ x. AllByRecursion (HasPaths a.index.now x.0) x.1 in
    record {
      few = c.requires.few;
      settled = subst (λ (ts : List Tree). AreSettled ts) (sym c.forget_all.ensures) (settled_trees c.expire_all.new.trees);
      can = subst Can (λ j. (messages j, before j)) (can_expired (recorded_messages a.mail.now.mail.arrivals) a.number a.trees.now c.requires.can);
      indexed = subst Indexed (λ j. (messages j, before j)) (indexed_expired a.index.now (recorded_messages a.mail.now.mail.arrivals) a.number a.trees.now c.requires.indexed);
    }

pub returns-clause-trees : goal.returns-clause-trees
returns-clause-trees c =
    c.prune_all.ensures
    ∙ ap (map (pruned_tree c.args.taken.now)) (c.forget_all.ensures ∙ ap (map settled_tree) c.expire_all.ensures)
    ∙ let_go_is c.args.number c.args.taken.now c.args.trees.now
    ∙ ap (λ (b : Bool). if b then map cleared_tree c.args.trees.now else map (fired_at c.args.number c.args.taken.now) c.args.trees.now) (sym c.if-stops.false)
