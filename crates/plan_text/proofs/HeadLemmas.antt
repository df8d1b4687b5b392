-- The text of a definition takes of the plan its kinds and the names of its actors alone.
use Rattle.std.proofs.Common.{◌≡◌, ℕ, zero, suc, List, [], ◌∷◌, ◌++◌, map, refl, slice_get}
use Rattle.std.specs.Prelude.{codes}
use Rattle.std.specs.List.{flat_map, join_by}
use Rattle.script_types.specs.declared.plan.ActorPlan.{ActorPlan}
use Rattle.script_types.specs.declared.plan.Plan.{Plan}
use Rattle.script_types.specs.declared.plan.Rule.{Rule}
use Rattle.script_types.specs.declared.plan.Statement.{Statement}
use Rattle.script_types.specs.declared.plan.Statement.TheVariants.{Print, Post, Stop, Reply}
use Rattle.script_types.specs.Names.{actor_name, kind_name, name_of_actor, name_of_kind}
use Rattle.plan_text.specs.GuardText.{guard_text, operand_text}
use Rattle.plan_text.specs.PlanNames.{Row, Variables}
use Rattle.plan_text.specs.PlanText.{actor_begin, actor_end, actor_lines, line_end, pattern_text, patterns_of, rule_lines, statement_line, statement_text, variable_text, when_line, window_text}

module _ (plan heads : Plan) (kinds : heads.kinds ≡ plan.kinds) (actors : (n : ℕ) → name_of_actor heads n ≡ name_of_actor plan n) where
  kind_same : (n : ℕ) → name_of_kind heads n ≡ name_of_kind plan n
  kind_same n = λ i. kind_name (slice_get (kinds i) n)

  pattern_same : (pattern : ℕ × Row) → pattern_text heads pattern ≡ pattern_text plan pattern
  pattern_same pattern =
      let named = kind_same pattern.0 in
      λ i. named i ++ (codes "(" ++ (join_by variable_text (codes ", ") pattern.1 ++ codes ")"))

  statement_same : (variables : Variables) (statement : Statement) → statement_text heads variables statement ≡ statement_text plan variables statement
  statement_same variables (Print items) = refl
  statement_same variables (Post target kind operands) =
      let actor = actors target in
      let named = kind_same kind in
      λ i. codes "post " ++ (actor i ++ (codes " " ++ (named i ++ (codes "(" ++ (join_by (operand_text variables) (codes ", ") operands ++ codes ");")))))
  statement_same variables Stop = refl
  statement_same variables (Reply pattern operand) = refl

  line_same : (variables : Variables) (statement : Statement) → statement_line heads variables statement ≡ statement_line plan variables statement
  line_same variables statement =
      let text = statement_same variables statement in
      λ i. codes "    " ++ (text i ++ line_end)

  when_same : (rule : Rule) → when_line heads rule ≡ when_line plan rule
  when_same rule = λ i.
      codes "  when "
      ++ (join_by (λ pattern. pattern_same pattern i) (codes " & ") (patterns_of rule.definition.patterns rule.variables)
      ++ (window_text rule.definition.window ++ (guard_text rule.variables rule.definition.conjuncts ++ (codes " {" ++ line_end))))

  rule_names : (rule : Rule) → rule_lines heads rule ≡ rule_lines plan rule
  rule_names rule =
      let when = when_same rule in
      λ i. when i ++ (flat_map (λ statement. line_same rule.variables statement i) rule.body ++ (codes "  }" ++ line_end))

pub rule_lines-names : (plan heads : Plan) → heads.kinds ≡ plan.kinds → ((n : ℕ) → name_of_actor heads n ≡ name_of_actor plan n) → (rule : Rule) → rule_lines heads rule ≡ rule_lines plan rule
rule_lines-names plan heads kinds actors rule = rule_names plan heads kinds actors rule

-- ---- the plan without a definition

abbrev pub alone : ActorPlan → ActorPlan
alone actor = record { name = actor.name; rules = [] }

abbrev pub heads : Plan → Plan
heads plan = record { kinds = plan.kinds; actors = map alone plan.actors }

name_alone : (actors : List ActorPlan) (n : ℕ) → actor_name (slice_get (map alone actors) n) ≡ actor_name (slice_get actors n)
name_alone [] n = refl
name_alone (actor ∷ actors) zero = refl
name_alone (actor ∷ actors) (suc n) = name_alone actors n

pub heads_names : (plan : Plan) (n : ℕ) → name_of_actor (heads plan) n ≡ name_of_actor plan n
heads_names plan n = name_alone plan.actors n

pub rule_lines-heads : (plan : Plan) (rule : Rule) → rule_lines (heads plan) rule ≡ rule_lines plan rule
rule_lines-heads plan rule = rule_lines-names plan (heads plan) refl (heads_names plan) rule

pub actor_lines-heads : (plan : Plan) (actor : ActorPlan) → actor_lines (heads plan) actor ≡ actor_lines plan actor
actor_lines-heads plan actor = λ i. actor_begin actor.name ++ (flat_map (λ rule. rule_lines-heads plan rule i) actor.rules ++ actor_end)

-- the lines of all actors
pub all_lines-heads : (plan : Plan) → flat_map (actor_lines (heads plan)) plan.actors ≡ flat_map (actor_lines plan) plan.actors
all_lines-heads plan = λ i. flat_map (λ actor. actor_lines-heads plan actor i) plan.actors
