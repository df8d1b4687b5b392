-- The plan of a definition asks of a tree nothing but its outline.
use Rattle.std.proofs.Common.{◌≡◌, ℕ, List, [], ◌∷◌, map, refl, ap}
use Rattle.script_grammar.specs.Outlines.{actor_name, outline_of}
use Rattle.script_grammar.specs.declared.tree.Spelt.{Spelt}
use Rattle.script_grammar.specs.declared.tree.ActorDecl.{ActorDecl}
use Rattle.script_grammar.specs.declared.tree.RuleDecl.{RuleDecl}
use Rattle.script_grammar.specs.declared.tree.StatementDecl.{StatementDecl}
use Rattle.script_grammar.specs.declared.tree.StatementDecl.TheVariants as s
use Rattle.script_grammar.specs.declared.tree.Tree.{Tree}
use Rattle.script_names.specs.Names.{names_of, number_of}
use Rattle.script_names.specs.Scope.{Variable, actor_rows, spelt_rows, variables_of}
use Rattle.script_types.specs.declared.plan.Statement.{Statement}
use Rattle.script_types.specs.declared.plan.Statement.TheVariants as statement
use Rattle.script_types.specs.declared.plan.Rule.{Rule}
use Rattle.script_types.specs.declared.plan.ActorPlan.{ActorPlan}
use Rattle.script_plan.specs.PlanOf.{actor_of, definition_of, kind_number, names_in, operand_of, or_zero, rule_of, statement_of, target_number}
use Rattle.script_plan.specs.Planned.{actor_alone, outline_tree}

abbrev Row : Type 0
Row = List ℕ × ℕ

-- the names of actors, as actors without definitions have them
pub rows_same : (names : List Spelt) → spelt_rows names ≡ actor_rows (map actor_alone names)
rows_same [] = refl
rows_same (s ∷ names) = ap (λ (rows : List Row). (s.name, s.place) ∷ rows) (rows_same names)

actors_named : (actors : List ActorDecl) → actor_rows (map actor_alone (map actor_name actors)) ≡ actor_rows actors
actors_named [] = refl
actors_named (a ∷ actors) = ap (λ (rows : List Row). (a.name.name, a.name.place) ∷ rows) (actors_named actors)

module _ (tree : Tree) where
  abbrev known : Tree
  known = outline_tree (outline_of tree)

  target_same : (name : List ℕ) → target_number known name ≡ target_number tree name
  target_same name = ap (λ (rows : List Row). or_zero (number_of name (names_of rows))) (actors_named tree.actors)

  statement_same : (variables : List Variable) (x : StatementDecl) → statement_of known variables x ≡ statement_of tree variables x
  statement_same variables (s.Print place items) = refl
  statement_same variables (s.Post place target kind operands) =
      ap (λ (n : ℕ). statement.Post n (kind_number tree kind.name) (map (operand_of variables) operands)) (target_same target.name)
  statement_same variables (s.Stop place) = refl
  statement_same variables (s.Reply place number_place number operand) = refl

  body_same : (variables : List Variable) (body : List StatementDecl) → map (statement_of known variables) body ≡ map (statement_of tree variables) body
  body_same variables [] = refl
  body_same variables (x ∷ body) = λ i. statement_same variables x i ∷ body_same variables body i

  rule_same : (rule : RuleDecl) → rule_of known rule ≡ rule_of tree rule
  unfolding rule_of
  rule_same rule =
      let variables = variables_of tree.messages rule in
      let with_body : List Statement → Rule = λ body. record { definition = definition_of tree variables rule; variables = map names_in rule.patterns; body = body } in
      ap with_body (body_same variables rule.body)

  rules_same : (rules : List RuleDecl) → map (rule_of known) rules ≡ map (rule_of tree) rules
  rules_same [] = refl
  rules_same (rule ∷ rules) = λ i. rule_same rule i ∷ rules_same rules i

  actor_same : (actor : ActorDecl) → actor_of known actor ≡ actor_of tree actor
  actor_same actor = let with_rules : List Rule → ActorPlan = λ rules. record { name = actor.name.name; rules = rules } in ap with_rules (rules_same actor.rules)

  pub actors_same : (actors : List ActorDecl) → map (actor_of known) actors ≡ map (actor_of tree) actors
  actors_same [] = refl
  actors_same (actor ∷ actors) = λ i. actor_same actor i ∷ actors_same actors i
