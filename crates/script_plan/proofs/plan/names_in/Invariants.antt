use Rattle.std.proofs.Common.{◌≡◌, ℕ, List, take, map, Option}
use Rattle.script_plan.proofs.plan.names_in.Given as goal

abbrev pub invariant-loop-name : goal.invariant-loop-name
invariant-loop-name l = l.names ≡ map (λ (variable : ℕ × Option (List ℕ)). variable.1) (take l.name-index l.name-items)
