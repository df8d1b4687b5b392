use Rattle.std.proofs.Common.{◌≡◌, take}
use Rattle.fair_semantics.specs.Step.{definitions_of}
use Rattle.actor_turn.specs.Held.{new_trees}
use Rattle.actor_turn.proofs.opening.trees_of.Given as goal

abbrev pub invariant-loop-place : goal.invariant-loop-place
invariant-loop-place l = l.trees.items ≡ new_trees 1 (definitions_of (take l.place l.rule-items))
