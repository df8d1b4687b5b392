-- What the visitors of a plan have taken, with one part more.
use Rattle.std.specs.Prelude.{ℕ, List, [], ◌∷◌, ◌++◌}
use Rattle.script_types.specs.declared.plan.Rule.{Rule}
use Rattle.plan_text.specs.PlanText.{actor_begin, actor_end, rule_lines}
use Rattle.script_lint.specs.Looked.{looked_at}
use Rattle.script_check.specs.declared.linted.ActorLinter.{ActorLinter}
use Rattle.script_check.specs.declared.printed.Printer.{Printer}

-- ---- the text of a plan

abbrev pub with_text : Printer → List ℕ → Printer
with_text s piece = record { heads = s.heads; text = s.text ++ piece }

abbrev pub actor_begun : Printer → List ℕ → Printer
actor_begun s name = with_text s (actor_begin name)

abbrev pub rule_printed : Printer → Rule → Printer
rule_printed s rule = with_text s (rule_lines s.heads.now rule)

abbrev pub actor_ended : Printer → List ℕ → Printer
actor_ended s name = with_text s actor_end

-- ---- the findings of a plan

abbrev pub actor_met : ActorLinter → List ℕ → ActorLinter
actor_met s name = s

abbrev pub rule_kept : ActorLinter → Rule → ActorLinter
rule_kept s rule = record { rules = s.rules ++ rule ∷ []; linter = s.linter }

abbrev pub actor_looked_at : ActorLinter → List ℕ → ActorLinter
actor_looked_at s name = record { rules = []; linter = looked_at s.linter s.rules }
