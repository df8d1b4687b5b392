use Rattle.std.proofs.Common.{subst, sym, refl, List, ◌+◌}
use Rattle.std.specs.List.{AllByRecursion}
use Rattle.script_types.specs.declared.plan.Rule.{Rule}
use Rattle.fair_semantics.specs.Step.{definitions_of}
use Rattle.actor_turn.specs.Steady.{HasPatterns}
use Rattle.actor_turn.proofs.OpeningLemmas.{new_trees_more, patterns_at}
use Rattle.actor_turn.proofs.opening.trees_of.Goals as goal

pub new-requires : goal.new-requires
new-requires c =
    let all = subst (λ (rs : List Rule). AllByRecursion HasPatterns (definitions_of rs)) (sym c.as_slice-rule-items.ensures.same) c.requires.patterns in
    let h = patterns_at c.as_slice-rule-items.result.now c.loop-place.place c.rule-item.result c.loop-place-test.true c.rule-item.is all in
    record { some = h.0; many = h.1 }

pub loop-place-preserved : goal.loop-place-preserved
loop-place-preserved c =
    new_trees_more c.as_slice-rule-items.result.now c.loop-place.place (c.loop-place.place + 1) c.rule-item.result c.loop-place.trees.items c.push.new.self.items c.in_ok-tree.tree c.loop-place-test.true c.rule-item.is refl c.in_ok-tree.ensures.opening c.loop-place.invariant c.in_ok-push.ensures.items
