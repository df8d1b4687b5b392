use Rattle.std.proofs.Common.{◌≡◌, ◌++◌, take}
use Rattle.std.specs.List.{flat_map}
use Rattle.plan_text.specs.PlanText.{statement_line}
use Rattle.plan_text.proofs.statements.write_body.Given as goal

abbrev pub invariant-loop-statement : goal.invariant-loop-statement
invariant-loop-statement l = l.text ≡ l.initial.text ++ flat_map (statement_line l.plan l.variables) (take l.statement-index l.body)
