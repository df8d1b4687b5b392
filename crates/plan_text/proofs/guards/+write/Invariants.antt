use Rattle.std.proofs.Common.{◌≡◌, ◌++◌, take}
use Rattle.std.specs.Prelude.{codes}
use Rattle.std.specs.List.{flat_map}
use Rattle.guard_eval.specs.Shape.{atom_condition}
use Rattle.plan_text.specs.GuardText.{condition_text}
use Rattle.plan_text.proofs.guards.+write.Given as goal

abbrev pub invariant-write_conjunct-loop-atom : goal.invariant-write_conjunct-loop-atom
invariant-write_conjunct-loop-atom l = l.text ≡ l.initial.text ++ flat_map (λ a. codes " || " ++ condition_text l.variables (atom_condition a)) (take l.atom-index l.more)
