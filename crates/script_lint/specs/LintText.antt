-- What lint writes of a plan: a line for each finding, and their number. Each line ends with LF.
use Rattle.std.specs.Prelude.{ℕ, List, [], ◌∷◌, ◌++◌, length, codes}
use Rattle.std.specs.List.{flat_map}
use Rattle.std.specs.Fmt.{decimal}
use Rattle.script_types.specs.declared.plan.Plan.{Plan}
use Rattle.script_types.specs.Names.{name_of_actor, name_of_kind}
use Rattle.script_lint.specs.declared.finding.Finding.{Finding}
use Rattle.script_lint.specs.declared.finding.Finding.TheVariants.{Dead, Narrow, Shadowed, Idle}
use Rattle.script_lint.specs.Findings.{findings}

-- `ACTOR rule R`
abbrev pub rule_text : Plan → ℕ → ℕ → List ℕ
rule_text plan actor rule = name_of_actor plan actor ++ (codes " rule " ++ decimal rule)

-- `dead ACTOR rule R`, `narrow ACTOR rule R`, `shadowed ACTOR rule R by B` or `idle KIND`
abbrev pub finding_text : Plan → Finding → List ℕ
finding_text plan (Dead actor rule) = codes "dead " ++ rule_text plan actor rule
finding_text plan (Narrow actor rule) = codes "narrow " ++ rule_text plan actor rule
finding_text plan (Shadowed actor rule by) = codes "shadowed " ++ (rule_text plan actor rule ++ (codes " by " ++ decimal by))
finding_text plan (Idle kind) = codes "idle " ++ name_of_kind plan kind

abbrev pub finding_line : Plan → Finding → List ℕ
finding_line plan finding = finding_text plan finding ++ (10 ∷ [])

-- `lint N`
abbrev pub total_line : ℕ → List ℕ
total_line total = codes "lint " ++ (decimal total ++ (10 ∷ []))

-- a line for each of these findings, and then their number
abbrev pub report_text : Plan → List Finding → List ℕ
report_text plan found = flat_map (finding_line plan) found ++ total_line (length found)

-- the report of a plan's findings
abbrev pub lint_text : Plan → List ℕ
lint_text plan = report_text plan (findings plan)
