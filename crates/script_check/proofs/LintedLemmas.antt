-- What is found of a plan's definitions, actor by actor, are the findings of the plan.
use Rattle.std.proofs.Common.{◌≡◌, ◌∙◌, ℕ, List, [], ◌∷◌, ◌++◌, refl, sym, ap, append_assoc, append-nil}
use Rattle.std.specs.Prelude.{fold}
use Rattle.script_grammar.specs.declared.outline.Outline.{Outline}
use Rattle.script_types.specs.declared.plan.ActorPlan.{ActorPlan}
use Rattle.script_types.specs.declared.plan.Plan.{Plan}
use Rattle.script_types.specs.declared.plan.Rule.{Rule}
use Rattle.script_lint.specs.declared.finding.Finding.{Finding}
use Rattle.script_lint.specs.Findings.{findings}
use Rattle.script_lint.specs.LintText.{lint_text, report_text}
use Rattle.script_lint.specs.Looked.{Looked, looked_all, looked_at, none_looked, reported}
use Rattle.script_lint.proofs.LinterLemmas.{findings_reported, report_text-heads}
use Rattle.script_plan.specs.Visited.{actor_taken, actors_taken, heads_of, without_rules}
use Rattle.script_check.specs.declared.linted.ActorLinter.{ActorLinter}
use Rattle.script_check.specs.Checked.{HasVisited}
use Rattle.script_check.specs.Script.{GivesText}
use Rattle.script_check.specs.Visitors.{actor_looked_at, actor_met, rule_kept}

-- ---- one actor

abbrev with_rules : ActorLinter → List Rule → ActorLinter
with_rules s rules = record { rules = s.rules ++ rules; linter = s.linter }

rules_kept : (s : ActorLinter) (rules : List Rule) → fold rule_kept s rules ≡ with_rules s rules
rules_kept s [] = λ i. record { rules = sym (append-nil s.rules) i; linter = s.linter }
rules_kept s (rule ∷ rules) = rules_kept (rule_kept s rule) rules ∙ (λ i. record { rules = append_assoc s.rules (rule ∷ []) rules i; linter = s.linter })

abbrev looked_behind : ActorLinter → ActorPlan → ActorLinter
looked_behind s actor = record { rules = []; linter = looked_at s.linter actor.rules }

actor_seen : (s : ActorLinter) (actor : ActorPlan) → s.rules ≡ [] → actor_taken actor_met rule_kept actor_looked_at s actor ≡ looked_behind s actor
actor_seen s actor none =
    ap (λ (t : ActorLinter). actor_looked_at t actor.name) (rules_kept s actor.rules) ∙ (λ i. record { rules = []; linter = looked_at s.linter (none i ++ actor.rules) })

-- ---- all actors

actors_seen : (s : ActorLinter) (actors : List ActorPlan) → s.rules ≡ [] → (actors_taken actor_met rule_kept actor_looked_at s actors).linter ≡ looked_all s.linter actors
actors_seen s [] none = refl
actors_seen s (actor ∷ actors) none =
    ap (λ (t : ActorLinter). (actors_taken actor_met rule_kept actor_looked_at t actors).linter) (actor_seen s actor none) ∙ actors_seen (looked_behind s actor) actors refl

-- ---- the plan

-- what is reported behind all actors is the text of the plan's findings, where the names are those of the plan
pub lints_plan : (bytes : List ℕ) (outline : Outline) (heads : Plan) (before now : ActorLinter) (found : List Finding) (text : List ℕ) → heads ≡ heads_of outline → before.rules ≡ [] → before.linter ≡ none_looked
    → HasVisited actor_met rule_kept actor_looked_at before now bytes outline → found ≡ reported now.linter heads.kinds → text ≡ report_text heads found → GivesText lint_text bytes text
lints_plan bytes outline heads before now found text is none begun visited found_is text_is =
    let plan = visited.plan in
    let names : heads ≡ without_rules plan = is ∙ visited.heads_are in
    let looked : now.linter ≡ looked_all none_looked plan.actors =
    ap (λ (l : ActorLinter). l.linter) visited.taken ∙ (actors_seen before plan.actors none ∙ ap (λ (l : Looked). looked_all l plan.actors) begun) in
    let all : found ≡ findings plan = found_is ∙ (ap (λ (p : Plan). reported now.linter p.kinds) names ∙ findings_reported plan now.linter looked) in
    (plan, visited.gives, text_is ∙ ((λ i. report_text (names i) (all i)) ∙ report_text-heads plan (findings plan)))
