-- What is known of a plan's actors as they are looked at one after the other.
use Rattle.std.specs.Prelude.{ℕ, ◌+◌, List, [], ◌++◌}
use Rattle.std.specs.List.{fold}
use Rattle.script_types.specs.declared.plan.ActorPlan.{ActorPlan}
use Rattle.script_types.specs.declared.plan.Kind.{Kind}
use Rattle.script_types.specs.declared.plan.Rule.{Rule}
use Rattle.script_lint.specs.declared.finding.Finding.{Finding}
use Rattle.script_lint.specs.Findings.{findings_behind, idle_from, kinds_behind}

-- the number of the next actor, the findings of those before it, and the kinds that their definitions without a finding
-- take
pub record Looked : Type 0 where
  pub number : ℕ
  pub found : List Finding
  pub taken : List ℕ

abbrev pub none_looked : Looked
none_looked = record { number = 0; found = []; taken = [] }

-- with the next actor, which has these definitions
abbrev pub looked_at : Looked → List Rule → Looked
looked_at looked rules = record {
  number = looked.number + 1;
  found = looked.found ++ findings_behind looked.number [] rules;
  taken = looked.taken ++ kinds_behind looked.number [] rules;
}

-- with these actors
abbrev pub looked_all : Looked → List ActorPlan → Looked
looked_all looked actors = fold (λ (known : Looked) (actor : ActorPlan). looked_at known actor.rules) looked actors

-- the findings, and behind them the idle ones of these kinds
abbrev pub reported : Looked → List Kind → List Finding
reported looked kinds = looked.found ++ idle_from looked.taken 0 kinds
