-- The text that a plan's printer appends, part by part, is that of the plan.
use Rattle.std.proofs.Common.{◌≡◌, ◌∙◌, ℕ, List, [], ◌∷◌, ◌++◌, sym, ap, append_assoc, append-nil}
use Rattle.std.specs.Prelude.{fold}
use Rattle.std.specs.List.{flat_map}
use Rattle.script_grammar.specs.declared.outline.Outline.{Outline}
use Rattle.script_types.specs.declared.plan.ActorPlan.{ActorPlan}
use Rattle.script_types.specs.declared.plan.Plan.{Plan}
use Rattle.script_types.specs.declared.plan.Rule.{Rule}
use Rattle.plan_text.specs.PlanText.{actor_begin, actor_end, actor_lines, kind_line, plan_text, rule_lines}
use Rattle.plan_text.proofs.HeadLemmas.{all_lines-heads}
use Rattle.script_plan.specs.Visited.{actor_taken, actors_taken, heads_of, without_rules}
use Rattle.script_check.specs.declared.printed.Printer.{Printer}
use Rattle.script_check.specs.Checked.{HasVisited}
use Rattle.script_check.specs.Script.{GivesText}
use Rattle.script_check.specs.Visitors.{actor_begun, actor_ended, rule_printed, with_text}

-- ---- part by part

nothing_more : (s : Printer) → s ≡ with_text s []
nothing_more s = λ i. record { heads = s.heads; text = sym (append-nil s.text) i }

more_text : (s : Printer) (one other : List ℕ) → with_text (with_text s one) other ≡ with_text s (one ++ other)
more_text s one other = λ i. record { heads = s.heads; text = append_assoc s.text one other i }

rules_printed : (s : Printer) (rules : List Rule) → fold rule_printed s rules ≡ with_text s (flat_map (rule_lines s.heads.now) rules)
rules_printed s [] = nothing_more s
rules_printed s (rule ∷ rules) = rules_printed (rule_printed s rule) rules ∙ more_text s (rule_lines s.heads.now rule) (flat_map (rule_lines s.heads.now) rules)

actor_printed : (s : Printer) (actor : ActorPlan) → actor_taken actor_begun rule_printed actor_ended s actor ≡ with_text s (actor_lines s.heads.now actor)
actor_printed s actor =
    let lines = flat_map (rule_lines s.heads.now) actor.rules in
    ap (λ (t : Printer). actor_ended t actor.name) (rules_printed (actor_begun s actor.name) actor.rules)
    ∙ (more_text (with_text s (actor_begin actor.name)) lines actor_end ∙ more_text s (actor_begin actor.name) (lines ++ actor_end))

actors_printed : (s : Printer) (actors : List ActorPlan) → actors_taken actor_begun rule_printed actor_ended s actors ≡ with_text s (flat_map (actor_lines s.heads.now) actors)
actors_printed s [] = nothing_more s
actors_printed s (actor ∷ actors) =
    ap (λ (t : Printer). actors_taken actor_begun rule_printed actor_ended t actors) (actor_printed s actor)
    ∙ (actors_printed (with_text s (actor_lines s.heads.now actor)) actors ∙ more_text s (actor_lines s.heads.now actor) (flat_map (actor_lines s.heads.now) actors))

-- ---- the plan

-- behind its kinds, a printer that has the plan's names alone gives the text of the plan
pub prints_plan : (bytes : List ℕ) (outline : Outline) (heads : Plan) (before now : Printer) → heads ≡ heads_of outline → before.heads.now ≡ heads → before.text ≡ flat_map kind_line heads.kinds
    → HasVisited actor_begun rule_printed actor_ended before now bytes outline → GivesText plan_text bytes now.text
prints_plan bytes outline heads before now is own begun visited =
    let plan = visited.plan in
    let names : heads ≡ without_rules plan = is ∙ visited.heads_are in
    let alone : before.heads.now ≡ without_rules plan = own ∙ names in
    let front : before.text ≡ flat_map kind_line plan.kinds = begun ∙ ap (λ (p : Plan). flat_map kind_line p.kinds) names in
    let text : now.text ≡ before.text ++ flat_map (actor_lines before.heads.now) plan.actors = ap (λ (p : Printer). p.text) (visited.taken ∙ actors_printed before plan.actors) in
    let same : now.text ≡ flat_map kind_line plan.kinds ++ flat_map (actor_lines (without_rules plan)) plan.actors = text ∙ (λ i. front i ++ flat_map (actor_lines (alone i)) plan.actors) in
    (plan, visited.gives, same ∙ ap (λ (t : List ℕ). flat_map kind_line plan.kinds ++ t) (all_lines-heads plan))
