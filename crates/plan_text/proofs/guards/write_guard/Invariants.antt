use Rattle.std.proofs.Common.{◌≡◌, ◌++◌, take}
use Rattle.std.specs.Prelude.{codes}
use Rattle.std.specs.List.{flat_map}
use Rattle.guard_eval.specs.Shape.{conjunct_condition}
use Rattle.plan_text.specs.GuardText.{condition_text}
use Rattle.plan_text.proofs.guards.write_guard.Given as goal

abbrev pub invariant-loop-conjunct : goal.invariant-loop-conjunct
invariant-loop-conjunct l = l.text ≡ l.initial.text ++ flat_map (λ c. codes " && " ++ condition_text l.variables (conjunct_condition c)) (take l.conjunct-index l.more)
