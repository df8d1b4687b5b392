-- The texts of definitions and actors print what they were read from.
use Rattle.std.proofs.Common.{◌≡◌, ℕ, List, [], ◌++◌, length, map, Option, None, Some, refl, sym, ap, append_assoc}
use Rattle.std.specs.Prelude.{ℤ, codes}
use Rattle.std.specs.List.{AllByRecursion, flat_map, join_by}
use Rattle.guard_eval.specs.Condition.{Condition}
use Rattle.script_tokens.specs.declared.token.Mark.TheVariants as m
use Rattle.script_grammar.specs.declared.tree.ActorDecl.{ActorDecl}
use Rattle.script_grammar.specs.declared.tree.PatternDecl.{PatternDecl}
use Rattle.script_grammar.specs.declared.tree.RuleDecl.{RuleDecl}
use Rattle.script_grammar.specs.declared.tree.StatementDecl.{StatementDecl}
use Rattle.script_grammar.specs.declared.tree.Tree.{Tree}
use Rattle.script_grammar.specs.Grammar as g
use Rattle.script_names.specs.declared.scope.Slot.{Slot}
use Rattle.script_names.specs.Scope.{Variable, actor_rows, variables_of}
use Rattle.script_faults.specs.First.{too_many}
use Rattle.script_faults.specs.Faults.{actor_faults, body_faults, guard_comparisons, guard_faults, pattern_faults, patterns_faults, reply_faults, rule_faults, statement_faults, statement_place, stop_faults, twice_declared, window_faults}
use Rattle.script_plan.specs.PlanOf.{actor_of, condition_of, names_in, pattern_of, plan_of, rule_of, rule_with, statement_of, window_of}
use Rattle.script_check.proofs.NumberLemmas.{left_none, right_none, NumberFits, numbers_fit}
use Rattle.script_check.proofs.SmallLemmas.{each_both, each_none, each_one}
use Rattle.plan_text.specs.PlanNames.{Variables}
use Rattle.plan_text.specs.GuardText.{guard_text}
use Rattle.plan_text.specs.PlanText.{actor_begin, actor_end, actor_lines, line_end, pattern_text, patterns_of, rule_lines, statement_line, window_text}
use Rattle.plan_law.proofs.BodyLemmas.{prints_line}
use Rattle.plan_law.proofs.DeclarationLemmas.{prints_patterns}
use Rattle.plan_law.proofs.GuardLemmas.{guard_leads, prints_guard}
use Rattle.plan_law.proofs.NamedLemmas.{rows_name}
use Rattle.plan_law.proofs.PhraseLemmas.{Prints, prints_any_then, prints_behind, prints_each_any, prints_mark, prints_mark_at, prints_nothing, prints_text, prints_then}
use Rattle.plan_law.proofs.TermLemmas.{prints_name, prints_numeral}
use Rattle.plan_law.proofs.TokenLemmas.{actor_is, close_brace_writes, keyword_space_writes, line_end_writes, open_brace_writes, space_writes, two_spaces_write, when_is, within_is}
use Rattle.plan_law.proofs.WriteLemmas.{Any, Ends, Leads, writes_then}

-- a definition none of whose parts has a fault
record IsRight (tree : Tree) (rule : RuleDecl) : Type 0 where
  patterns : AllByRecursion (λ (p : PatternDecl). pattern_faults tree.messages p ≡ []) rule.patterns
  guard : guard_faults (variables_of tree.messages rule) (guard_comparisons rule.guard) ≡ []
  body : AllByRecursion (λ (x : StatementDecl). statement_faults tree.messages (actor_rows tree.actors) (variables_of tree.messages rule) x ≡ []) rule.body
  numbers : AllByRecursion (NumberFits (length rule.patterns)) rule.body

rule_right : (tree : Tree) (rule : RuleDecl) → rule_faults tree.messages (actor_rows tree.actors) rule ≡ [] → IsRight tree rule
rule_right tree rule none =
    let messages = tree.messages in
    let actors = actor_rows tree.actors in
    let variables = variables_of messages rule in
    let patterns = patterns_faults messages rule.patterns in
    let twice = twice_declared (λ (slot : Slot). slot.place) variables in
    let guard = guard_faults variables (guard_comparisons rule.guard) in
    let body = body_faults messages actors variables rule.body in
    let window = window_faults rule.window in
    let replies = reply_faults (length rule.patterns) [] rule.body in
    let four = left_none (patterns ++ twice ++ guard ++ body) window (left_none (patterns ++ twice ++ guard ++ body ++ window) replies none) in
    let three = left_none (patterns ++ twice ++ guard) body four in
    let no_pattern = left_none patterns twice (left_none (patterns ++ twice) guard three) in
    let no_body = right_none (patterns ++ twice ++ guard) body four in
    record {
      patterns = each_none (pattern_faults messages) rule.patterns (right_none (too_many 8 (λ (p : PatternDecl). p.kind.place) rule.patterns) (flat_map (pattern_faults messages) rule.patterns) no_pattern);
      guard = right_none (patterns ++ twice) guard three;
      body = each_none (statement_faults messages actors variables) rule.body (right_none (too_many 16 statement_place rule.body ++ stop_faults rule.body) (flat_map (statement_faults messages actors variables) rule.body) no_body);
      numbers = numbers_fit (length rule.patterns) [] rule.body (right_none (patterns ++ twice ++ guard ++ body ++ window) replies none);
    }

-- ---- windows

prints_window : (window : Option (ℕ × ℤ)) → Prints Ends (g.window window) (window_text (window_of window))
prints_window None = prints_nothing Ends
prints_window (Some number) = prints_behind space_writes (prints_any_then (prints_mark (keyword_space_writes (codes "within") m.Within within_is)) (prints_numeral number))

-- a window, a guard or what is behind them ends the word before it
window_leads : (window : Option ℕ) (rows : Variables) (conditions : List Condition) (text : List ℕ) → Leads Ends (window_text window ++ (guard_text rows conditions ++ (codes " " ++ text))) Any
window_leads None rows conditions text rest q = guard_leads rows conditions text rest q
window_leads (Some number) rows conditions text rest q = record { ends = refl }

-- ---- definitions

-- a definition's text, part by part
regroup : (front patterns window guard brace rest : List ℕ) → front ++ (patterns ++ (window ++ (guard ++ (brace ++ rest)))) ≡ (front ++ (patterns ++ (window ++ (guard ++ brace)))) ++ rest
regroup front patterns window guard brace rest = sym (simp append_assoc)

module _ (tree : Tree) where
  prints_when : (rule : RuleDecl) → IsRight tree rule → Prints Any (g.definition rule) (rule_lines (plan_of tree) (rule_with tree (variables_of tree.messages rule) rule))
  prints_when rule right =
      let plan = plan_of tree in
      let variables : List Variable = variables_of tree.messages rule in
      let rows : Variables = map names_in rule.patterns in
      let named = rows_name tree.messages rule in
      let conditions = map (condition_of variables) rule.guard in
      let patterns : List ℕ = join_by (pattern_text plan) (codes " & ") (patterns_of (map (pattern_of tree) rule.patterns) rows) in
      let lines : List ℕ = flat_map (statement_line plan rows) (map (statement_of tree variables) rule.body) in
      let rest : List ℕ = lines ++ (codes "  }" ++ line_end) in
      let window : Option ℕ = window_of rule.window in
      prints_text (regroup (codes "  when ") patterns (window_text window) (guard_text rows conditions) (codes " {" ++ line_end) rest)
      (prints_behind two_spaces_write
      (prints_any_then (prints_mark_at (keyword_space_writes (codes "when") m.When when_is))
      (prints_then (prints_patterns tree rule.patterns right.patterns) (window_leads window rows conditions (codes "{" ++ (line_end ++ rest)))
      (prints_then (prints_window rule.window) (guard_leads rows conditions (codes "{" ++ (line_end ++ rest)))
      (prints_then (prints_guard variables rows named rule.guard right.guard) (λ more q. record { ends = refl })
      (prints_any_then (prints_mark (writes_then space_writes (writes_then open_brace_writes line_end_writes)))
      (prints_any_then
      (prints_each_any g.statement (statement_of tree variables) (statement_line plan rows) rule.body
      (each_both (λ (x : StatementDecl). statement_faults tree.messages (actor_rows tree.actors) variables x ≡ []) (NumberFits (length rule.patterns))
      (λ (x : StatementDecl). Prints Any (g.statement x) (statement_line plan rows (statement_of tree variables x)))
      (prints_line variables rows named tree (length rule.patterns)) rule.body right.body right.numbers))
      (prints_mark (writes_then two_spaces_write (writes_then close_brace_writes line_end_writes))))))))))

  rule_of-is : (rule : RuleDecl) → rule_of tree rule ≡ rule_with tree (variables_of tree.messages rule) rule
  unfolding rule_of
  rule_of-is rule = refl

  abbrev RulePrints : RuleDecl → Type 0
  RulePrints rule = Prints Any (g.definition rule) (rule_lines (plan_of tree) (rule_of tree rule))

  prints_rule : (rule : RuleDecl) → rule_faults tree.messages (actor_rows tree.actors) rule ≡ [] → RulePrints rule
  prints_rule rule none = prints_text (ap (rule_lines (plan_of tree)) (sym (rule_of-is rule))) (prints_when rule (rule_right tree rule none))

  -- ---- actors

  -- an actor without a fault
  pub prints_actor : (actor : ActorDecl) → actor_faults tree.messages (actor_rows tree.actors) actor ≡ [] → Prints Any (g.actor actor) (actor_lines (plan_of tree) (actor_of tree actor))
  prints_actor actor none =
      let faults = rule_faults tree.messages (actor_rows tree.actors) in
      let name : List ℕ = actor.name.name in
      let opened : List ℕ = codes " {" ++ line_end in
      let inner : List ℕ = flat_map (rule_lines (plan_of tree)) (map (rule_of tree) actor.rules) ++ actor_end in
      let lines : codes "actor " ++ (name ++ (opened ++ inner)) ≡ actor_begin name ++ inner = ap (λ (text : List ℕ). codes "actor " ++ text) (sym (append_assoc name opened inner)) in
      prints_text lines
      (prints_any_then (prints_mark (keyword_space_writes (codes "actor") m.Actor actor_is))
      (prints_then (prints_name actor.name actor.name.name refl) (λ rest q. record { ends = refl })
      (prints_any_then (prints_mark (writes_then space_writes (writes_then open_brace_writes line_end_writes)))
      (prints_any_then
      (prints_each_any g.definition (rule_of tree) (rule_lines (plan_of tree)) actor.rules
      (each_one (λ (r : RuleDecl). faults r ≡ []) RulePrints prints_rule actor.rules (each_none faults actor.rules (right_none (too_many 16 (λ (r : RuleDecl). r.place) actor.rules) (flat_map faults actor.rules) none))))
      (prints_mark (writes_then close_brace_writes line_end_writes))))))
